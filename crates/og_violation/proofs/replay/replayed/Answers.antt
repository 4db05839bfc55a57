use Rattle.std.proofs.Common.{IfSome, Some, sym, ap, ◌∙◌, subst}
use Rattle.std.proofs.lemmas.Bool.{both_ways}
use Rattle.std.proofs.lemmas.Option.{same_Some}
use Rattle.og_typed.specs.Machine.{run_on, start_of}
use Rattle.og_violation.specs.Violations.{IsWrong, IsWrongAt}
use Rattle.og_violation.specs.Replays.{IsAfterRun}
use Rattle.og_violation.proofs.Firsts.{wrong_after}
use Rattle.og_violation.proofs.replay.replayed.Goals as goal

pub returns-then-is_wrong-clause-some : goal.returns-then-is_wrong-clause-some
returns-then-is_wrong-clause-some c =
    let o = c.args.outline.now in
    let after = subst (λ x. IfSome x (IsAfterRun o c.args.values c.deref.result.now)) c.in-Some.is c.in_ok-moment.ensures.some in
    subst (λ h. IsWrong o c.args.values h c.args.wrong) c.deref.ensures.value
    (wrong_after o c.args.values c.deref.result.now c.in-Some.moment c.args.wrong after (c.is_wrong.ensures.0 c.if-is_wrong.true))

pub returns-else-is_wrong-clause-none : goal.returns-else-is_wrong-clause-none
returns-else-is_wrong-clause-none c =
    let o = c.args.outline.now in
    let after = subst (λ x. IfSome x (IsAfterRun o c.args.values c.deref.result.now)) c.in-Some.is c.in_ok-moment.ensures.some in
    λ w.
    let same = same_Some c.in-Some.moment.moment w.last (sym after.2 ∙ ap (λ h. run_on h (Some (start_of o c.args.values))) c.deref.ensures.value ∙ w.leads) in
    both_ways c.is_wrong.result c.if-is_wrong.false (c.is_wrong.ensures.1 (subst (λ m. IsWrongAt o m c.args.wrong) (sym same) w.there))
