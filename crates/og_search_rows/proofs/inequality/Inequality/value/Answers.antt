use Rattle.std.proofs.Common.{◌≡◌, ℤ, ◌+ℤ◌, rules, FitsSigned, to_z, of_z, ap, ◌∙◌}
use mir.Syntax.{w128}
use Rattle.std.proofs.lemmas.Int.{to_z-of_z}
use Rattle.og_search_rows.proofs.Extremes.{value_turn}
use Rattle.og_search_rows.proofs.Merges.{no_term}
use Rattle.og_search_rows.proofs.inequality.Inequality.value.Goals as goal

pub loop-term-preserved : goal.loop-term-preserved
loop-term-preserved c =
    let old = to_z w128 c.loop-term.sum-bits in
    let part = c.in_ok-value.field-0 in
    let next = c.in_ok-sum.sum in
    let next_fits : FitsSigned w128 next = search rules in
    let part_fits : FitsSigned w128 part = search rules in
    let put : to_z w128 (of_z w128 next) ≡ old +ℤ part = to_z-of_z w128 next next_fits ∙ c.in_ok-sum.ensures.1 ∙ ap (λ (z : ℤ). old +ℤ z) (to_z-of_z w128 part part_fits) in
    value_turn c.deref-term-items.result.now c.args.model.now c.loop-term.term-index no_term old part (to_z w128 (of_z w128 next)) _ c.loop-term-test.true c.in_ok-value.ensures put
    c.loop-term.invariant
