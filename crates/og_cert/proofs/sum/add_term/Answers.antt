use Rattle.std.proofs.Common.{◌≡◌, ◌≢◌, ◌+◌, ◌++◌, ◌∷◌, ℕ, ℤ, pos, [], Some, true, take, drop, of_z, to_z, ◌≤◌, sym, ap, ap₂, ◌+ℤ◌, ◌∙◌, subst}
use Rattle.std.specs.Prelude.{slice_get}
use mir.Syntax.{w128}
use Rattle.std.proofs.lemmas.Result.{err_from_is_err_and}
use Rattle.std.proofs.lemmas.Option.{slice_get_within}
use Rattle.std.proofs.lemmas.Int.{to_z-of_z}
use Rattle.og_linear.specs.Arith.{with_term, merge}
use Rattle.og_linear.specs.Answer.{checked_int, checked_terms}
use Rattle.og_linear.proofs.Steps.{fits_true}
use Rattle.og_cert.proofs.Terms.{below}
use Rattle.og_cert.proofs.Sums.{found_fits, found_unfit, new_fits, last_fits, none_fits, term_fits, some_range, stops_from}
use Rattle.og_cert.proofs.sum.add_term.Goals as goal

pub returns-then-d-eq0-clause-answer : goal.returns-then-d-eq0-clause-answer
returns-then-d-eq0-clause-answer c =
    let d = c.args.d in
    let none : d ≡ pos 0 = sym (to_z-of_z w128 d c.ranges.d) ∙ ap (to_z w128) c.if-d-eq0.true in
    none_fits c.args.terms.now.items c.args.var d c.requires none

pub returns-then-is_last-clause-answer : goal.returns-then-is_last-clause-answer
returns-then-is_last-clause-answer c =
    let ts = c.args.terms.now.items in
    let v = c.args.var in
    let d = c.args.d in
    let other : d ≢ pos 0 = λ e. c.if-d-eq0.false (ap (of_z w128) e) in
    let before : below v ts ≡ true = ap (below v) (sym c.deref.ensures.value) ∙ sym c.is_last.ensures ∙ c.if-is_last.true in
    last_fits ts c.push.new.self.items v d c.requires other (fits_true d c.ranges.d) before
    (c.in_ok-push.ensures.items ∙ ap (λ z. ts ++ (v, z) ∷ []) (to_z-of_z w128 d c.ranges.d))

pub returns-in_err-sum-in-Some-clause-answer : goal.returns-in_err-sum-in-Some-clause-answer
returns-in_err-sum-in-Some-clause-answer c =
    let ts = c.args.terms.now.items in
    let place = c.place_of-place.result in
    let v = c.args.var in
    let d = c.args.d in
    let other : d ≢ pos 0 = λ e. c.if-d-eq0.false (ap (of_z w128) e) in
    let before : below v (take place ts) ≡ true = subst (λ us. below v (take place us) ≡ true) c.deref-2.ensures.value c.place_of-place.ensures.before in
    let at : slice_get ts place ≡ Some (c.args.var, c.in-Some.c) = subst (λ us. slice_get us place ≡ Some (c.args.var, c.in-Some.c)) c.deref-3.ensures.value c.in-Some.ensures in
    let old = to_z-of_z w128 c.in-Some.c (term_fits ts place (v, c.in-Some.c) c.requires.1 at) in
    let sum = ap₂ (λ x y. checked_int (x +ℤ y)) old (to_z-of_z w128 d c.ranges.d) in
    let p = err_from_is_err_and c.from_residual-in_err-sum-in-Some.result c.from_residual-in_err-sum-in-Some.ensures.1 in
    rw p.1
    (stops_from c.in_err-sum-in-Some.field-0.0 p.0 _ (checked_terms (merge ts (with_term v d []))) c.in_err-sum-in-Some.ensures.answer p.2
    (λ none. found_unfit ts place v c.in-Some.c d other before at (sym sum ∙ none)))

pub put_at-requires : goal.put_at-requires
put_at-requires c =
    let ts = c.args.terms.now.items in
    let place = c.place_of-place.result in
    let at : slice_get ts place ≡ Some (c.args.var, c.in-Some.c) = subst (λ us. slice_get us place ≡ Some (c.args.var, c.in-Some.c)) c.deref-3.ensures.value c.in-Some.ensures in
    slice_get_within ts place (c.args.var, c.in-Some.c) at

pub returns-in_ok-sum-in-Some-clause-answer : goal.returns-in_ok-sum-in-Some-clause-answer
returns-in_ok-sum-in-Some-clause-answer c =
    let ts = c.args.terms.now.items in
    let place = c.place_of-place.result in
    let v = c.args.var in
    let d = c.args.d in
    let other : d ≢ pos 0 = λ e. c.if-d-eq0.false (ap (of_z w128) e) in
    let before : below v (take place ts) ≡ true = subst (λ us. below v (take place us) ≡ true) c.deref-2.ensures.value c.place_of-place.ensures.before in
    let at : slice_get ts place ≡ Some (c.args.var, c.in-Some.c) = subst (λ us. slice_get us place ≡ Some (c.args.var, c.in-Some.c)) c.deref-3.ensures.value c.in-Some.ensures in
    let old = to_z-of_z w128 c.in-Some.c (term_fits ts place (v, c.in-Some.c) c.requires.1 at) in
    let sum = ap₂ (λ x y. checked_int (x +ℤ y)) old (to_z-of_z w128 d c.ranges.d) in
    let new = c.in_ok-sum-in-Some.sum in
    let fits : checked_int (c.in-Some.c +ℤ d) ≡ Some new = sym sum ∙ c.in_ok-sum-in-Some.ensures.answer in
    let put = c.put_at.ensures ∙ ap (λ z. take place ts ++ with_term v z (drop (place + 1) ts)) (to_z-of_z w128 new (some_range (c.in-Some.c +ℤ d) new fits)) in
    found_fits ts c.put_at.new.terms.items place v c.in-Some.c d new c.requires other before at fits put

pub returns-in_ok-insert-in-None-clause-answer : goal.returns-in_ok-insert-in-None-clause-answer
returns-in_ok-insert-in-None-clause-answer c =
    let ts = c.args.terms.now.items in
    let place = c.place_of-place.result in
    let v = c.args.var in
    let d = c.args.d in
    let other : d ≢ pos 0 = λ e. c.if-d-eq0.false (ap (of_z w128) e) in
    let before : below v (take place ts) ≡ true = subst (λ us. below v (take place us) ≡ true) c.deref-2.ensures.value c.place_of-place.ensures.before in
    let behind : (t : ℕ × ℤ) → slice_get ts place ≡ Some t → v ≤ t.0 = subst (λ us. (t : ℕ × ℤ) → slice_get us place ≡ Some t → v ≤ t.0) c.deref-2.ensures.value c.place_of-place.ensures.behind in
    let apart : (t : ℕ × ℤ) → slice_get ts place ≡ Some t → t.0 ≢ v = subst (λ us. (t : ℕ × ℤ) → slice_get us place ≡ Some t → t.0 ≢ v) c.deref-3.ensures.value c.in-None.ensures in
    let put = c.in_ok-insert-in-None.ensures.items ∙ ap (λ z. take place ts ++ (v, z) ∷ drop place ts) (to_z-of_z w128 d c.ranges.d) in
    new_fits ts c.insert.new.self.items place v d c.requires other (fits_true d c.ranges.d) before behind apart put
