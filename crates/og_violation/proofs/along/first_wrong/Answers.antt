use Rattle.std.proofs.Common.{◌≡◌, ◌<◌, length, get_or, IfSome, sym, subst, refl, arith}
use Rattle.std.specs.Prelude.{IfNone}
use Rattle.og_violation.specs.Along.{IsTrueAlong}
use Rattle.og_violation.specs.Replays.{IsFindingAt, IsFirstWrong}
use Rattle.og_violation.proofs.Activity.{after_none}
use Rattle.og_violation.proofs.Firsts.{end_stopped, end_whole, run_more, before_more}
use Rattle.og_violation.proofs.along.first_wrong.Goals as goal

pub returns-in_default-step : goal.returns-in_default-step
returns-in_default-step c =
    let o = c.args.outline.now in
    let values = c.args.values.now in
    let history = c.args.history.now in
    let k = c.loop-k.k in
    let p = get_or history k 0 in
    let lt : k < length history = omega (arith, c.loop-k-test.true) in
    let none = after_none c.step.result p c.loop-k.moment c.step.new.self c.step.ensures.after c.in_default-step.not-Moved in
    let ends = end_stopped o values history k p c.loop-k.moment c.at_last.result lt refl c.loop-k.invariant.before c.loop-k.invariant.after none.0
    (subst (λ a. IsFindingAt o a.moment c.at_last.result) none.1 c.at_last.ensures) in
    record {
      some = subst (λ x. IfSome x (IsFirstWrong o values history)) (sym c.with_steps.ensures) ends.0;
      none = subst (λ x. IfNone x (IsTrueAlong o values history)) (sym c.with_steps.ensures) ends.1;
    }

pub loop-k-preserved : goal.loop-k-preserved
loop-k-preserved c =
    let o = c.args.outline.now in
    let values = c.args.values.now in
    let history = c.args.history.now in
    let k = c.loop-k.k in
    let p = get_or history k 0 in
    let lt : k < length history = omega (arith, c.loop-k-test.true) in
    let step = c.in-Moved.ensures.after in
    let finding = subst (IsFindingAt o c.loop-k.moment.moment) c.in_default-found.is (c.before_step-found.ensures c.step.new.self.moment step.0) in
    record {
      after = run_more o values history k p c.loop-k.moment c.step.new.self lt refl c.loop-k.invariant.after step.0 step.1;
      before = before_more o values history k c.loop-k.moment c.loop-k.invariant.before c.loop-k.invariant.after finding;
    }

pub returns-clause-some : goal.returns-clause-some
returns-clause-some c =
    let o = c.args.outline.now in
    let values = c.args.values.now in
    let history = c.args.history.now in
    let at_end : c.loop-k.k ≡ length history = omega (arith, c.loop-k-test.false, c.loop-k.auto.k-end) in
    subst (λ x. IfSome x (IsFirstWrong o values history)) (sym c.with_steps-2.ensures)
    (end_whole o values history c.loop-k.k c.loop-k.moment c.at_last-2.result at_end c.loop-k.invariant.before c.loop-k.invariant.after c.at_last-2.ensures).0

pub returns-clause-none : goal.returns-clause-none
returns-clause-none c =
    let o = c.args.outline.now in
    let values = c.args.values.now in
    let history = c.args.history.now in
    let at_end : c.loop-k.k ≡ length history = omega (arith, c.loop-k-test.false, c.loop-k.auto.k-end) in
    subst (λ x. IfNone x (IsTrueAlong o values history)) (sym c.with_steps-2.ensures)
    (end_whole o values history c.loop-k.k c.loop-k.moment c.at_last-2.result at_end c.loop-k.invariant.before c.loop-k.invariant.after c.at_last-2.ensures).1
