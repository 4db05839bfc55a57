use Rattle.std.proofs.Common.{◌≡◌, ℤ, ◌+◌, ◌+ℤ◌, ◌*ℤ◌, Some, to_z, of_z, FitsSigned, drop, rules, ap, ap₂, sym, ◌∙◌}
use mir.Syntax.{w128}
use Rattle.std.specs.Prelude.{slice_get}
use Rattle.std.proofs.lemmas.Int.{to_z-of_z}
use Rattle.og_linear.specs.Linear.{val_terms, value_at}
use Rattle.og_subst.proofs.Terms.{value_turn, value_end}
use Rattle.og_subst.proofs.truth.value_of.Goals as goal

pub returns-in-None : goal.returns-in-None
returns-in-None c =
    value_end c.args.form.now c.args.values.now c.loop-i.i _ (sym c.term.ensures.found ∙ c.in-None.is) c.loop-i.invariant

pub loop-i-preserved : goal.loop-i-preserved
loop-i-preserved c =
    let f = c.args.form.now in
    let s = c.args.values.now in
    let next = c.in_ok-sum-in-Some.sum in
    let wide : FitsSigned w128 next = search rules in
    let same : to_z w128 (of_z w128 next) ≡ next = to_z-of_z w128 next wide in
    let found : slice_get f.terms c.loop-i.i ≡ Some (c.in-Some.var, c.in-Some.c) = sym c.term.ensures.found ∙ c.in-Some.is in
    let sum = to_z w128 c.loop-i.sum-bits in
    let range : FitsSigned w128 c.in-Some.c = search rules in
    let short : FitsSigned w128 c.value_at.result = search rules in
    let added : next ≡ sum +ℤ c.in-Some.c *ℤ value_at s c.in-Some.var =
    c.in_ok-sum-in-Some.ensures
    ∙ ap₂ (λ (k v : ℤ). sum +ℤ k *ℤ v) (to_z-of_z w128 c.in-Some.c range) (to_z-of_z w128 c.value_at.result short ∙ c.value_at.ensures) in
    ap (λ (z : ℤ). val_terms (drop (c.loop-i.i + 1) f.terms) s +ℤ z) same
    ∙ value_turn f s c.loop-i.i c.in-Some.var c.in-Some.c _ next found added c.loop-i.invariant
