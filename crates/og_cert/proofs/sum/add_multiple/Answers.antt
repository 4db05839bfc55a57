use Rattle.std.proofs.Common.{◌≡◌, ◌*ℤ◌, [], ◌∷◌, Some, sym, ap, ap₂, ◌∙◌, subst, of_z, to_z}
use mir.Syntax.{w128}
use Rattle.std.proofs.lemmas.Result.{err_from_is_err_and}
use Rattle.std.proofs.lemmas.Int.{to_z-of_z}
use Rattle.og_linear.specs.Arith.{with_term, merge}
use Rattle.og_linear.specs.Answer.{IsAnswer, checked_int, checked_terms}
use Rattle.og_linear.specs.declared.fault.FormFault.TheVariants as faults
use Rattle.og_cert.specs.Sums.{added_terms}
use Rattle.og_cert.proofs.Sums.{some_range, single_stops, single_added, terms_after, stops_from}
use Rattle.og_cert.proofs.sum.add_multiple.Goals as goal

pub returns-in_err-product-clause-answer : goal.returns-in_err-product-clause-answer
returns-in_err-product-clause-answer c =
    let ts = c.args.terms.now.items in
    let k = c.args.k in
    let d = c.args.c in
    let product = ap₂ (λ x y. checked_int (x *ℤ y)) (to_z-of_z w128 k c.ranges.k) (to_z-of_z w128 d c.ranges.c) in
    let p = err_from_is_err_and c.from_residual.result c.from_residual.ensures.1 in
    rw p.1
    (stops_from c.in_err-product.field-0.0 p.0 _ (added_terms ts k ((c.args.var, d) ∷ [])) c.in_err-product.ensures.answer p.2
    (λ none. single_stops ts k c.args.var d (sym product ∙ none)))

pub returns-clause-answer : goal.returns-clause-answer
returns-clause-answer c =
    let ts = c.args.terms.now.items in
    let k = c.args.k in
    let v = c.args.var in
    let d = c.in_ok-product.product in
    let product = ap₂ (λ x y. checked_int (x *ℤ y)) (to_z-of_z w128 k c.ranges.k) (to_z-of_z w128 c.args.c c.ranges.c) in
    let fits : checked_int (k *ℤ c.args.c) ≡ Some d = sym product ∙ c.in_ok-product.ensures.answer in
    let same = to_z-of_z w128 d (some_range (k *ℤ c.args.c) d fits) in
    subst (λ o. IsAnswer (λ (_ : Unit {0}). c.add_term.new.terms.items) faults.TooLarge c.add_term.result o)
    (ap (λ z. checked_terms (merge ts (with_term v z []))) same ∙ single_added ts k v c.args.c d fits) c.add_term.ensures.answer

pub returns-clause-terms : goal.returns-clause-terms
returns-clause-terms c =
    let d = c.in_ok-product.product in
    terms_after c.args.terms.now.items c.add_term.new.terms.items c.args.var (to_z w128 (of_z w128 d)) c.add_term.result c.requires c.add_term.ensures.answer c.add_term.ensures.kept
