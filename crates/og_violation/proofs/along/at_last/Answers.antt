use Rattle.std.proofs.Common.{◌∙◌, sym, ap, ap₂, length, subst}
use Rattle.og_typed.specs.Machine.{active}
use Rattle.og_violation.specs.Replays.{IsFindingAt}
use Rattle.og_violation.proofs.Runs.{reached_shaped}
use Rattle.og_violation.proofs.Activity.{main_active}
use Rattle.og_violation.proofs.Firsts.{main_finding, others_finding}
use Rattle.og_violation.proofs.along.at_last.Goals as goal

pub returns-then-is_active : goal.returns-then-is_active
returns-then-is_active c =
    let o = c.args.outline.now in
    let m = c.args.moment.now.moment in
    let shaped = reached_shaped o m c.requires.1 in
    let left = sym c.is_finished.ensures ∙ c.if-is_finished.false in
    let main = c.processes.ensures.count ∙ ap (λ at. length at.processes) c.requires.0 in
    subst (IsFindingAt o m) (sym c.of_main.ensures)
    (main_finding o m shaped left (sym (main_active o m shaped left) ∙ sym (c.is_active.ensures ∙ ap₂ (λ a p. active a m p) c.requires.0 main) ∙ c.if-is_active.true))

pub returns-else-is_active : goal.returns-else-is_active
returns-else-is_active c =
    let o = c.args.outline.now in
    let m = c.args.moment.now.moment in
    let shaped = reached_shaped o m c.requires.1 in
    let left = sym c.is_finished.ensures ∙ c.if-is_finished.false in
    let main = c.processes.ensures.count ∙ ap (λ at. length at.processes) c.requires.0 in
    subst (IsFindingAt o m) (sym c.of_process.ensures)
    (others_finding o m shaped left (sym (main_active o m shaped left) ∙ sym (c.is_active.ensures ∙ ap₂ (λ a p. active a m p) c.requires.0 main) ∙ c.if-is_active.false)
    c.first_false.result c.first_false.ensures.some c.first_false.ensures.none)
