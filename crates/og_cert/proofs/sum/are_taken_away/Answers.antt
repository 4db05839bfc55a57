use Rattle.std.proofs.Common.{◌≡◌, ◌+◌, ◌<◌, ℕ, ℤ, pos, ◌+ℤ◌, ◌*ℤ◌, length, Bool, true, false, not, Option, Some, None, get_or, take, slice_get, refl, sym, ap₂, ◌∙◌, subst, arith, rules, FitsSigned}
use mir.Syntax.{w128}
use Rattle.std.specs.Prelude.{IsTrue, is_some}
use Rattle.std.proofs.lemmas.Bool.{both_ways}
use Rattle.std.proofs.lemmas.Int.{to_z-of_z}
use Rattle.std.proofs.lemmas.Option.{slice_get-get_or}
use Rattle.og_linear.specs.Bounded.{fits_i128}
use Rattle.og_cert.proofs.Sums.{TakenAway, taken_next, taken_end, term_fits}
use Rattle.og_cert.proofs.sum.are_taken_away.Goals as goal

pub loop-t-preserved : goal.loop-t-preserved
loop-t-preserved c =
    let ts = c.args.terms.now in
    let us = c.args.atom.now.terms in
    let k = c.args.k in
    let i = c.loop-t.t-index in
    let t = get_or ts i (0, pos 0) in
    let u : ℕ × ℤ = (c.in-Some.var, c.in-Some.c) in
    let inside : i < length ts = omega arith in
    let at : slice_get ts i ≡ Some t = slice_get-get_or ts i (0, pos 0) inside in
    let found = subst (λ vs. slice_get vs c.loop-t.index ≡ Some u) c.signed-signed.ensures (sym c.term.ensures ∙ c.in-Some.is) in
    let other = subst (λ n. slice_get us n ≡ Some u) c.loop-t.invariant.index found in
    let fit : FitsSigned w128 c.in-Some.c = search rules in
    let times = to_z-of_z w128 k c.ranges.k in
    let own = to_z-of_z w128 t.1 (term_fits ts i t c.requires.1 at) in
    let its = to_z-of_z w128 u.1 fit in
    let p = c.if-is_taken_away.ensures refl in
    let fits : fits_i128 (k *ℤ u.1) ≡ true = ap₂ (λ x y. fits_i128 (x *ℤ y)) (sym times) (sym its) ∙ p.0 in
    let gone : t.1 +ℤ k *ℤ u.1 ≡ pos 0 = ap₂ ◌+ℤ◌ (sym own) (ap₂ ◌*ℤ◌ (sym times) (sym its)) ∙ p.1 in
    let away = subst (λ z. TakenAway z (take i ts) (take i us)) times c.loop-t.invariant.away in
    record {
      index = search rules;
      away =
          subst (λ z. TakenAway z (take (i + 1) ts) (take (i + 1) us)) (sym times)
          (taken_next ts us k i t u at other (sym c.if-var-t.true) fits gone away);
    }

none_of : (o : Option (ℕ × ℤ)) (b : Bool) → is_some o ≡ not b → IsTrue b → o ≡ None
none_of None b e shown = refl
none_of (Some t) true e shown = absurd (both_ways true e refl)
none_of (Some t) false e shown = absurd (both_ways false refl shown)

pub returns : goal.returns
returns c = λ shown.
    let ts = c.args.terms.now in
    let us = c.args.atom.now.terms in
    let i = c.loop-t.t-index in
    let times = to_z-of_z w128 c.args.k c.ranges.k in
    let all : length ts ≡ i = omega arith in
    let past = subst (λ vs. slice_get vs c.loop-t.index ≡ None) c.signed-signed.ensures (sym c.term-2.ensures ∙ none_of c.term-2.result c.is_none.result c.is_none.ensures shown) in
    let none = subst (λ n. slice_get us n ≡ None) c.loop-t.invariant.index past in
    taken_end ts us c.args.k i c.requires.0 all none (subst (λ z. TakenAway z (take i ts) (take i us)) times c.loop-t.invariant.away)
