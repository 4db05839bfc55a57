use Rattle.std.proofs.Common.{◌∙◌, sym, ap, length, subst}
use Rattle.og_violation.specs.Replays.{IsFindingAt}
use Rattle.og_violation.proofs.Runs.{reached_shaped}
use Rattle.og_violation.proofs.Activity.{moved_left}
use Rattle.og_violation.proofs.Firsts.{main_finding, others_finding, moved_main, moved_other}
use Rattle.og_violation.proofs.along.before_step.Goals as goal

pub returns-then-p-processes : goal.returns-then-p-processes
returns-then-p-processes c k e =
    let o = c.args.outline.now in
    let m = c.args.moment.now.moment in
    let shaped = reached_shaped o m c.requires.1 in
    subst (IsFindingAt o m) (sym c.of_main.ensures)
    (main_finding o m shaped (moved_left o m shaped c.args.p k e) (moved_main o m shaped c.args.p k e (c.if-p-processes.true ∙ c.processes.ensures.count ∙ ap (λ at. length at.processes) c.requires.0)))

pub returns-else-p-processes : goal.returns-else-p-processes
returns-else-p-processes c k e =
    let o = c.args.outline.now in
    let m = c.args.moment.now.moment in
    let shaped = reached_shaped o m c.requires.1 in
    subst (IsFindingAt o m) (sym c.of_process.ensures)
    (others_finding o m shaped (moved_left o m shaped c.args.p k e) (moved_other o m shaped c.args.p k e (λ same. c.if-p-processes.false (same ∙ sym (c.processes.ensures.count ∙ ap (λ at. length at.processes) c.requires.0))))
    c.first_false.result c.first_false.ensures.some c.first_false.ensures.none)
