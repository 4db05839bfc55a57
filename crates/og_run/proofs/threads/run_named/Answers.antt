use Rattle.std.proofs.Common.{◌<◌, sym, subst}
use Rattle.og_run.specs.Runs.{Given}
use Rattle.og_run.specs.Histories.{process_count}
use Rattle.og_run.specs.Over.{OverAt}
use Rattle.og_run.proofs.Ending.{back_at, over_at}
use Rattle.og_run.proofs.threads.run_named.Goals as goal

pub returns-clause-same : goal.returns-clause-same
returns-clause-same g c =
    let m = c.settle-machine.result in
    let e = back_at (g.B.Machine.given c.args.machine) (g.B.Machine.given m) (g.B.Machine.history m) (g.B.Machine.halted m) c.in_ok-arena.seats.items c.in_ok-seats.seats.items 0 c.in_ok-arena.ensures c.in_ok-seats.ensures.gains c.requires.some c.settle-machine.ensures in
    sym e.2

pub returns-clause-over : goal.returns-clause-over
returns-clause-over g c = λ p less.
    let m = c.settle-machine.result in
    let back = back_at (g.B.Machine.given c.args.machine) (g.B.Machine.given m) (g.B.Machine.history m) (g.B.Machine.halted m) c.in_ok-arena.seats.items c.in_ok-seats.seats.items in
    let first = back 0 c.in_ok-arena.ensures c.in_ok-seats.ensures.gains c.requires.some c.settle-machine.ensures in
    let e = back p c.in_ok-arena.ensures c.in_ok-seats.ensures.gains (subst (λ (z : Given). p < process_count z.outline) (sym first.2) less) c.settle-machine.ensures in
    subst (OverAt (g.B.Machine.given m) (g.B.Machine.history m) (g.B.Machine.halted m)) e.1 (over_at (g.B.Machine.given m) (g.B.Machine.history m) (g.B.Machine.halted m) e.0 c.steps-all.ensures.run e.3 e.4)
