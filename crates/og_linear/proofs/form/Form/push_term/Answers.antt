use Rattle.std.proofs.Common.{◌≡◌, [], ◌∷◌, ◌++◌, true, pos, ◌*ℤ◌, Some, sym, subst, ap, ap₂, ◌∙◌, FitsSigned, rules}
use mir.Syntax.{w128}
use Rattle.std.specs.Prelude.{nat_lt}
use Rattle.std.specs.List.{list_all}
use Rattle.std.proofs.lemmas.Int.{to_z-of_z}
use Rattle.og_linear.specs.Linear.{form_value}
use Rattle.og_linear.specs.Arith.{with_term}
use Rattle.og_linear.specs.Tidy.{IsTidy}
use Rattle.og_linear.specs.Bounded.{fits_terms, add_scaled}
use Rattle.og_linear.proofs.Steps.{checked_some, fits_true}
use Rattle.og_linear.proofs.Pushed.{pushed_term, tidy_with_term}
use Rattle.og_linear.proofs.form.Form.push_term.Goals as goal

pub invariant_of-self-2 : goal.invariant_of-self-2
invariant_of-self-2 c =
    let terms = c.self.inside.terms.items in
    let product = c.in_ok-product.product in
    let range : FitsSigned w128 product = search rules in
    let last : list_all (λ t. nat_lt t.0 c.args.var) terms ≡ true = subst (λ f. list_all (λ t. nat_lt t.0 c.args.var) f.terms ≡ true) (sym c.self.view_is) c.requires.last in
    let items = c.in_ok-push_term.ensures.added ∙ ap (λ d. terms ++ with_term c.args.var d []) (to_z-of_z w128 product range) in
    subst (λ ts. IsTidy ts × (fits_terms ts ≡ true)) (sym items) (tidy_with_term terms c.args.var product last c.self.invariant (fits_true product range))

pub returns-clause-answer : goal.returns-clause-answer
returns-clause-answer c =
    let var = c.args.var in
    let terms = c.self.inside.terms.items in
    let constant = c.self.inside.constant in
    let product = c.in_ok-product.product in
    let range : FitsSigned w128 product = search rules in
    let const : FitsSigned w128 constant = search rules in
    let last : list_all (λ t. nat_lt t.0 var) terms ≡ true = subst (λ f. list_all (λ t. nat_lt t.0 var) f.terms ≡ true) (sym c.self.view_is) c.requires.last in
    let items = c.in_ok-push_term.ensures.added ∙ ap (λ d. terms ++ with_term var d []) (to_z-of_z w128 product range) in
    let is : c.args.k *ℤ c.args.c ≡ product = ap₂ ◌*ℤ◌ (sym (to_z-of_z w128 c.args.k c.ranges.k)) (sym (to_z-of_z w128 c.args.c c.ranges.c)) ∙ (checked_some _ product c.in_ok-product.ensures.answer).1 in
    ap (λ f. add_scaled f c.args.k (form_value ((var, c.args.c) ∷ []) (pos 0))) (sym c.self.view_is)
    ∙ pushed_term (form_value terms constant) var c.args.k c.args.c product is (fits_true product range) c.self.invariant.1 const last
    ∙ ap (λ ts. Some (form_value ts constant)) (sym items)
