use Rattle.og_run.proofs.threads.run_board.Given as goal

abbrev pub ghosts-run_named : goal.ghosts-run_named
ghosts-run_named g a = record { table = a.unstarted.table }
