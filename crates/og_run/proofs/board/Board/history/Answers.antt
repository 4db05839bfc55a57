use Rattle.std.proofs.Common.{subst}
use Rattle.og_run.specs.Histories.{IsRun}
use Rattle.og_run.specs.Standing.{Standing}
use Rattle.og_run.proofs.Boards.{run_of}
use Rattle.og_run.proofs.board.Board.history.Goals as goal

pub returns-clause-run : goal.returns-clause-run
returns-clause-run c =
    let s : Standing = record { given = c.self.inside.setting; history = c.self.inside.history.items; halted = c.self.inside.halted } in
    subst (λ (z : Standing). IsRun z.given z.history) c.self.view_is (run_of s c.self.inside.moment c.self.inside.counts.items c.self.invariant.0)
