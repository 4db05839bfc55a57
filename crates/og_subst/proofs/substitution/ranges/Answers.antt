use Rattle.std.proofs.Common.{Vec, Global, map, arith, ◌∙◌, refl}
use Rattle.std.proofs.lemmas.Result.{err_from_is_err_and}
use Rattle.og_linear.specs.declared.fault.FormFault.TheVariants as faults
use Rattle.og_typed.specs.declared.assertion.Assert.{Assert}
use Rattle.og_typed.specs.declared.assertion.Assert as its
use Rattle.og_typed.specs.Plain.{formula}
use Rattle.og_typed.specs.Lists.{formula_list}
use Rattle.og_subst.specs.Subst.{low, high, ranges}
use Rattle.og_subst.proofs.Mapping.{ranges_turn, low_stops, high_stops, ranges_end, fails_from}
use Rattle.og_subst.proofs.substitution.ranges.Goals as goal

pub returns-in_err-low : goal.returns-in_err-low
returns-in_err-low c =
    let p = err_from_is_err_and c.from_residual.result c.from_residual.ensures.1 in
    rw p.1 (fails_from (λ (v : Vec Assert Global). formula_list (map formula v.items)) faults.TooLarge c.in_err-low.field-0.0 p.0 (low c.value-item.result) (ranges c.args.values.now) c.in_err-low.ensures p.2
    (λ none. low_stops (map formula c.loop-value.out.items) c.args.values.now c.loop-value.value-index c.value-item.result _ c.loop-value-test.true c.value-item.is c.loop-value.invariant none))

pub returns-in_err-high : goal.returns-in_err-high
returns-in_err-high c =
    let p = err_from_is_err_and c.from_residual-in_err-high.result c.from_residual-in_err-high.ensures.1 in
    rw p.1 (fails_from (λ (v : Vec Assert Global). formula_list (map formula v.items)) faults.TooLarge c.in_err-high.field-0.0 p.0 (high c.value-item.result) (ranges c.args.values.now) c.in_err-high.ensures p.2
    (λ none. high_stops (map formula c.loop-value.out.items) c.args.values.now c.loop-value.value-index c.value-item.result c.in_ok-low.field-0 _ c.loop-value-test.true c.value-item.is c.loop-value.invariant c.in_ok-low.ensures none))

pub loop-value-preserved : goal.loop-value-preserved
loop-value-preserved c =
    ranges_turn formula c.loop-value.out.items c.push.new.self.items c.push-in-loop-value.new.self.items (its.Le c.in_ok-low.field-0) (its.Le c.in_ok-high.field-0) c.args.values.now c.loop-value.value-index c.value-item.result c.in_ok-low.field-0 c.in_ok-high.field-0
    c.loop-value-test.true c.value-item.is c.in_ok-push.ensures.items c.in_ok-push-2.ensures.items refl refl c.in_ok-low.ensures c.in_ok-high.ensures
    ∙ c.loop-value.invariant

pub returns : goal.returns
returns c =
    ranges_end formula c.loop-value.out.items c.args.values.now c.loop-value.value-index _ (omega arith) c.loop-value.invariant
