use Rattle.std.proofs.Common.{ℕ, ℤ, pos, length, get_or, FitsSigned, arith, rules, subst, below_more, ap}
use mir.Syntax.{w64}
use Rattle.std.proofs.lemmas.List.{get_or_default}
use Rattle.og_linear.proofs.state.State.new.Goals as goal

pub loop-value-preserved : goal.loop-value-preserved
loop-value-preserved c =
    let values = c.deref-value-items.result.now in
    let i = c.loop-value.value-index in
    let read : FitsSigned w64 (get_or values i (pos 0)) = search rules in
    below_more (λ (k : ℕ). (d : ℤ) → FitsSigned w64 (get_or values k d)) i c.loop-value.invariant
    (λ d. subst (FitsSigned w64) (get_or_default values i (pos 0) d c.loop-value-test.true) read)

pub invariant_of-result : goal.invariant_of-result
invariant_of-result c = λ k d h.
    let same = c.deref-value-items.ensures.value in
    subst (λ values. FitsSigned w64 (get_or values k d)) same
    (c.loop-value.invariant k (omega (arith, ap (length {A = ℤ}) same, h, c.loop-value-test.false)) d)
