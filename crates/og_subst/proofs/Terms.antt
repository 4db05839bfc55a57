-- The value of a form term by term, and a value in its place.
use Rattle.std.proofs.Common.{◌≡◌, ℕ, zero, suc, ◌+◌, ℤ, pos, ◌+ℤ◌, ◌*ℤ◌, List, [], ◌∷◌, drop, Some, None, refl, sym, ap, ◌∙◌, arith, drop-cons, add-one}
use Rattle.std.specs.Prelude.{slice_get}
use Rattle.std.proofs.lemmas.Option.{slice_get_within, get_or_from_slice_get, none-some}
use Rattle.std.proofs.lemmas.Int.{ints}
use Rattle.og_linear.specs.Linear.{Terms, FormValue, value_at, val_terms, val}

at_term : (ts : Terms) (i : ℕ) (t : ℕ × ℤ) → slice_get ts i ≡ Some t → drop i ts ≡ t ∷ drop (i + 1) ts
at_term ts i t e =
    drop-cons ts i t (slice_get_within ts i t e)
    ∙ ap (λ y. y ∷ drop (suc i) ts) (get_or_from_slice_get ts i t t e)
    ∙ ap (λ k. t ∷ drop k ts) (sym (add-one i))

past : (ts : Terms) (i : ℕ) → slice_get ts i ≡ None → drop i ts ≡ []
past [] zero e = refl
past [] (suc i) e = refl
past (t ∷ ts) zero e = absurd (none-some t (sym e))
past (t ∷ ts) (suc i) e = past ts i e

terms_turn : (ts : Terms) (s : List ℤ) (i : ℕ) (t : ℕ × ℤ) → slice_get ts i ≡ Some t → val_terms (drop i ts) s ≡ t.1 *ℤ value_at s t.0 +ℤ val_terms (drop (i + 1) ts) s
terms_turn ts s i t e = ap (λ l. val_terms l s) (at_term ts i t e)

terms_end : (ts : Terms) (s : List ℤ) (i : ℕ) → slice_get ts i ≡ None → val_terms (drop i ts) s ≡ pos 0
terms_end ts s i e = ap (λ l. val_terms l s) (past ts i e)

shuffled : (product rest sum : ℤ) → rest +ℤ (sum +ℤ product) ≡ (product +ℤ rest) +ℤ sum
shuffled product rest sum = omega (arith, ints)

pub value_turn : (f : FormValue) (s : List ℤ) (i x : ℕ) (k sum next : ℤ) → slice_get f.terms i ≡ Some (x, k) → next ≡ sum +ℤ k *ℤ value_at s x → val_terms (drop i f.terms) s +ℤ sum ≡ val f s → val_terms (drop (i + 1) f.terms) s +ℤ next ≡ val f s
value_turn f s i x k sum next at e before =
    let rest = val_terms (drop (i + 1) f.terms) s in
    ap (λ z. rest +ℤ z) e
    ∙ shuffled (k *ℤ value_at s x) rest sum
    ∙ ap (λ z. z +ℤ sum) (sym (terms_turn f.terms s i (x, k) at))
    ∙ before

pub value_end : (f : FormValue) (s : List ℤ) (i : ℕ) (sum : ℤ) → slice_get f.terms i ≡ None → val_terms (drop i f.terms) s +ℤ sum ≡ val f s → sum ≡ val f s
value_end f s i sum past before =
    let none : pos 0 +ℤ sum ≡ val f s = ap (λ z. z +ℤ sum) (sym (terms_end f.terms s i past)) ∙ before in
    omega (arith, ints, none)
