use Rattle.std.proofs.Common.{◌≡◌, ℕ, ◌≤◌, ◌+◌, ◌*◌, ◌^◌, ℤ, pos, ◌+ℤ◌, ◌*ℤ◌, to_z, of_z, get_or, drop, length, FitsSigned, arith, rules, ap, ap₂, ◌∙◌, sym, subst}
use mir.Syntax.{w64, w128}
use Rattle.std.specs.Prelude.{nat_abs}
use Rattle.std.proofs.lemmas.Int.{to_z-of_z}
use Rattle.og_linear.specs.Linear.{val_terms, value_at}
use Rattle.og_linear.proofs.Sizes.{value_turn, sum_stays, sum_fits}
use Rattle.og_linear.proofs.form.Form.value.Goals as goal

pub loop-t-preserved : goal.loop-t-preserved
loop-t-preserved c =
    let terms = c.deref-t-items.result.now in
    let values = c.as_slice-values.result.now in
    let i = c.loop-t.t-index in
    let t = get_or terms i (0, pos 0) in
    let sum = to_z w128 c.loop-t.sum-bits in
    let product = c.weighed-sum.result in
    let wide : FitsSigned w128 product = search rules in
    let range : FitsSigned w128 t.1 = search rules in
    let short : FitsSigned w64 (value_at values t.0) = search rules in
    let few : i + 1 ≤ 256 = omega (arith, c.requires.few, ap (length {A = ℕ × ℤ}) (c.deref-t-items.ensures.value ∙ ap (λ f. f.terms) c.self.view_is)) in
    let small = sum_stays sum product i c.loop-t.invariant.small c.weighed-sum.ensures.small in
    let total : to_z w128 (of_z w128 (sum +ℤ to_z w128 (of_z w128 product))) ≡ sum +ℤ product =
    ap (λ (w : ℤ). to_z w128 (of_z w128 (sum +ℤ w))) (to_z-of_z w128 product wide) ∙ to_z-of_z w128 (sum +ℤ product) (sum_fits (sum +ℤ product) (i + 1) small few) in
    let weight : product ≡ t.1 *ℤ value_at values t.0 = c.weighed-sum.ensures.value ∙ ap₂ ◌*ℤ◌ (to_z-of_z w128 t.1 range) (to_z-of_z w64 (value_at values t.0) short) in
    record {
      so_far = ap (λ (z : ℤ). z +ℤ val_terms (drop (i + 1) terms) values) total ∙ value_turn sum product _ terms values i c.loop-t-test.true weight c.loop-t.invariant.so_far;
      small = subst (λ (z : ℤ). nat_abs z ≤ (i + 1) * 2 ^ 94) (sym total) small;
    }
