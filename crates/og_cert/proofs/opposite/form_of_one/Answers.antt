use Rattle.std.proofs.Common.{◌≡◌, ℤ, [], ◌∷◌, Some, None, sym, ap, ap₂, ◌∙◌, FitsSigned, rules}
use Rattle.std.specs.Prelude.{slice_get}
use mir.Syntax.{w128}
use Rattle.std.proofs.lemmas.Int.{to_z-of_z}
use Rattle.og_linear.specs.Linear.{form_value}
use Rattle.og_cert.proofs.Opposites.{only_term}
use Rattle.og_cert.proofs.opposite.form_of_one.Goals as goal

pub returns-in-Some-None : goal.returns-in-Some-None
returns-in-Some-None c =
    let f = c.args.atom.now in
    let var = c.in-Some-None.var in
    let k = c.in-Some-None.coefficient in
    let range : FitsSigned w128 k = search rules in
    let wide : FitsSigned w128 c.offset-constant.result = search rules in
    let first : slice_get f.terms 0 ≡ Some (var, k) = sym c.term.ensures.found ∙ c.in-Some-None.is-0 in
    let no_other : slice_get f.terms 1 ≡ None = sym c.term-2.ensures.found ∙ c.in-Some-None.is-1 in
    ap₂ form_value
    (only_term f.terms (var, k) first no_other ∙ ap (λ (z : ℤ). (var, z) ∷ []) (sym (to_z-of_z w128 k range)))
    (sym c.offset-constant.ensures ∙ sym (to_z-of_z w128 c.offset-constant.result wide))
