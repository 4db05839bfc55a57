use Rattle.std.proofs.Common.{ℕ, ℤ, ◌≡◌, ◌+◌, ◌<◌, ◌≤◌, ◌^◌, [], ◌∷◌, take, true, Some, None, refl, sym, ap₂, ◌∙◌, subst, arith, rules, FitsSigned}
use mir.Syntax.{w128}
use Rattle.std.specs.Prelude.{slice_get}
use Rattle.std.proofs.lemmas.Result.{err_from_is_err_and}
use Rattle.std.proofs.lemmas.Option.{slice_get_within}
use Rattle.std.proofs.lemmas.Int.{to_z-of_z}
use Rattle.og_linear.specs.Arith.{scale_terms, merge}
use Rattle.og_linear.specs.Bounded.{fits_terms}
use Rattle.og_linear.proofs.Steps.{merge-none}
use Rattle.og_cert.specs.Sums.{added_terms}
use Rattle.og_cert.proofs.Terms.{place_of_term}
use Rattle.og_cert.proofs.Sums.{next_added, next_stops, added_end, stops_from}
use Rattle.og_cert.proofs.sum.add_each.Goals as goal

pub loop-var-init : goal.loop-var-init
loop-var-init c = record {
  inside = omega arith;
  terms = c.requires;
  products = refl;
  sum = sym (merge-none c.args.terms.now.items);
}

pub returns-in_err-add_multiple-clause-answer : goal.returns-in_err-add_multiple-clause-answer
returns-in_err-add_multiple-clause-answer c =
    let ts = c.args.terms.now.items in
    let us = c.args.atom.now.terms in
    let old = c.loop-var.terms.items in
    let k = c.args.k in
    let i = c.loop-var.index in
    let t : ℕ × ℤ = (c.in-Some.var, c.in-Some.c) in
    let found : slice_get us i ≡ Some t = subst (λ vs. slice_get vs i ≡ Some t) c.signed-signed.ensures (sym c.term.ensures ∙ c.in-Some.is) in
    let fit : FitsSigned w128 c.in-Some.c = search rules in
    let times = to_z-of_z w128 k c.ranges.k in
    let sum = subst (λ z. old ≡ merge ts (scale_terms z (take i us))) times c.loop-var.invariant.sum in
    let added = ap₂ (λ x y. added_terms old x ((t.0, y) ∷ [])) times (to_z-of_z w128 t.1 fit) in
    let p = err_from_is_err_and c.from_residual.result c.from_residual.ensures.1 in
    rw p.1
    (stops_from c.in_err-add_multiple.field-0.0 p.0 _ (added_terms ts k us) c.in_err-add_multiple.ensures.answer p.2
    (λ none. next_stops ts us old k i t c.requires c.numbers_fit.ensures.tidy found sum (sym added ∙ none)))

pub overflow_add-index : goal.overflow_add-index
overflow_add-index c =
    let us = c.args.atom.now.terms in
    let i = c.loop-var.index in
    let t : ℕ × ℤ = (c.in-Some.var, c.in-Some.c) in
    let found : slice_get us i ≡ Some t = subst (λ vs. slice_get vs i ≡ Some t) c.signed-signed.ensures (sym c.term.ensures ∙ c.in-Some.is) in
    let small : c.in-Some.var < 2 ^ 32 = search rules in
    let least : i ≤ c.in-Some.var = place_of_term us i t c.numbers_fit.ensures.tidy found in
    search rules

pub loop-var-smaller : goal.loop-var-smaller
loop-var-smaller c =
    let us = c.args.atom.now.terms in
    let i = c.loop-var.index in
    let t : ℕ × ℤ = (c.in-Some.var, c.in-Some.c) in
    let found : slice_get us i ≡ Some t = subst (λ vs. slice_get vs i ≡ Some t) c.signed-signed.ensures (sym c.term.ensures ∙ c.in-Some.is) in
    let within = slice_get_within us i t found in
    omega (arith, within)

pub loop-var-preserved : goal.loop-var-preserved
loop-var-preserved c =
    let ts = c.args.terms.now.items in
    let us = c.args.atom.now.terms in
    let old = c.loop-var.terms.items in
    let k = c.args.k in
    let i = c.loop-var.index in
    let t : ℕ × ℤ = (c.in-Some.var, c.in-Some.c) in
    let found : slice_get us i ≡ Some t = subst (λ vs. slice_get vs i ≡ Some t) c.signed-signed.ensures (sym c.term.ensures ∙ c.in-Some.is) in
    let fit : FitsSigned w128 c.in-Some.c = search rules in
    let times = to_z-of_z w128 k c.ranges.k in
    let sum = subst (λ z. old ≡ merge ts (scale_terms z (take i us))) times c.loop-var.invariant.sum in
    let added = ap₂ (λ x y. added_terms old x ((t.0, y) ∷ [])) times (to_z-of_z w128 t.1 fit) in
    let products = subst (λ z. fits_terms (scale_terms z (take i us)) ≡ true) times c.loop-var.invariant.products in
    let new = c.add_multiple.new.terms.items in
    let next = next_added ts us old new k i t c.requires.0 c.numbers_fit.ensures.tidy found products sum (sym added ∙ c.in_ok-add_multiple.ensures.answer) in
    let within = slice_get_within us i t found in
    record {
      inside = omega (arith, within);
      terms = c.in_ok-add_multiple.ensures.terms;
      products = subst (λ z. fits_terms (scale_terms z (take (i + 1) us)) ≡ true) (sym times) next.0;
      sum = subst (λ z. new ≡ merge ts (scale_terms z (take (i + 1) us))) (sym times) next.1;
    }

pub returns-clause-answer : goal.returns-clause-answer
returns-clause-answer c =
    let ts = c.args.terms.now.items in
    let us = c.args.atom.now.terms in
    let old = c.loop-var.terms.items in
    let k = c.args.k in
    let i = c.loop-var.index in
    let times = to_z-of_z w128 k c.ranges.k in
    let sum = subst (λ z. old ≡ merge ts (scale_terms z (take i us))) times c.loop-var.invariant.sum in
    let products = subst (λ z. fits_terms (scale_terms z (take i us)) ≡ true) times c.loop-var.invariant.products in
    added_end ts us old k i (subst (λ vs. slice_get vs i ≡ None) c.signed-signed.ensures (sym c.term.ensures ∙ c.in_default.is)) c.loop-var.invariant.terms products sum
