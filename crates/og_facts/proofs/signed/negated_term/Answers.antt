use Rattle.std.proofs.Common.{◌≡◌, ℤ, pos, negsuc, ◌*ℤ◌, to_z, of_z, Some, sym, ap, ◌∙◌, subst, FitsSigned, arith, rules}
use mir.Syntax.{w128}
use Rattle.std.specs.Prelude.{option_map, slice_get, ◌-ℤ◌}
use Rattle.std.proofs.lemmas.Int.{ints, to_z-of_z}
use Rattle.og_facts.proofs.Atoms.{negated_at, negative_term, negation_at, negation_fits}
use Rattle.og_facts.proofs.signed.negated_term.Goals as goal

pub returns-in-None : goal.returns-in-None
returns-in-None c =
    let f = c.args.form.now in
    sym (negated_at f.terms c.args.i c.term.ensures.tidy ∙ ap (option_map negative_term) (sym c.term.ensures.found ∙ c.in-None.is))

pub overflow_sub-result : goal.overflow_sub-result
overflow_sub-result c =
    let f = c.args.form.now in
    let range : FitsSigned w128 c.in-Some.coefficient = search rules in
    let found : slice_get f.terms c.args.i ≡ Some (c.in-Some.var, c.in-Some.coefficient) = sym c.term.ensures.found ∙ c.in-Some.is in
    let product : pos 0 -ℤ c.in-Some.coefficient ≡ negsuc 0 *ℤ c.in-Some.coefficient = omega (arith, ints) in
    subst (FitsSigned w128) (sym (ap (λ (z : ℤ). pos 0 -ℤ z) (to_z-of_z w128 c.in-Some.coefficient range) ∙ product))
    (negation_fits f.terms c.args.i (c.in-Some.var, c.in-Some.coefficient) c.term.ensures.tidy c.requires found)

pub returns-in-Some : goal.returns-in-Some
returns-in-Some c =
    let f = c.args.form.now in
    let k = c.in-Some.coefficient in
    let range : FitsSigned w128 k = search rules in
    let found : slice_get f.terms c.args.i ≡ Some (c.in-Some.var, k) = sym c.term.ensures.found ∙ c.in-Some.is in
    let product : pos 0 -ℤ k ≡ negsuc 0 *ℤ k = omega (arith, ints) in
    let same : pos 0 -ℤ to_z w128 (of_z w128 k) ≡ negsuc 0 *ℤ k = ap (λ (z : ℤ). pos 0 -ℤ z) (to_z-of_z w128 k range) ∙ product in
    let fits = negation_fits f.terms c.args.i (c.in-Some.var, k) c.term.ensures.tidy c.requires found in
    ap (λ (z : ℤ). Some (c.in-Some.var, z)) (ap (λ (z : ℤ). to_z w128 (of_z w128 z)) same ∙ to_z-of_z w128 (negsuc 0 *ℤ k) fits)
    ∙ sym (negation_at f.terms c.args.i (c.in-Some.var, k) c.term.ensures.tidy found)
