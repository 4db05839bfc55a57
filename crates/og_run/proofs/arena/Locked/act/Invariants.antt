use Rattle.og_run.specs.Cards.{card}
use Rattle.og_run.proofs.arena.Locked.act.Given as goal

abbrev pub ghosts-hand_out : goal.ghosts-hand_out
ghosts-hand_out g a = record { process = a.p; card = card (g.B.Machine.given a._machine.now) (g.B.Machine.history a._machine.now) (g.B.Machine.halted a._machine.now) }
