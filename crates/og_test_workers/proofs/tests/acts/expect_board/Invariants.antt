use Rattle.og_test_workers.proofs.tests.acts.expect_board.Given as goal

abbrev pub ghosts-expect_arena : goal.ghosts-expect_arena
ghosts-expect_arena g a = record { table = a.unstarted.table }
