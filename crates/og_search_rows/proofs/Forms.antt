-- The inequality of a form, term by term.
use Rattle.std.proofs.Common.{◌≡◌, ℕ, zero, suc, ◌+◌, ℤ, pos, ◌+ℤ◌, ◌*ℤ◌, List, [], ◌∷◌, ◌++◌, drop, Some, None, refl, sym, ap, ◌∙◌, arith, drop-cons, add-one}
use Rattle.std.specs.Prelude.{slice_get}
use Rattle.std.proofs.lemmas.Option.{slice_get_within, get_or_from_slice_get, none-some}
use Rattle.std.proofs.lemmas.Int.{ints}
use Rattle.og_linear.specs.Linear.{Terms, FormValue, value_at, val_terms, val}
use Rattle.og_search_rows.specs.declared.inequality.Term.{Term}
use Rattle.og_search_rows.specs.Inequality.{sum_at}
use Rattle.og_search_rows.proofs.Sums.{sum_at-push}

at_term : (ts : Terms) (i : ℕ) (t : ℕ × ℤ) → slice_get ts i ≡ Some t → drop i ts ≡ t ∷ drop (i + 1) ts
at_term ts i t e =
    drop-cons ts i t (slice_get_within ts i t e)
    ∙ ap (λ y. y ∷ drop (suc i) ts) (get_or_from_slice_get ts i t t e)
    ∙ ap (λ k. t ∷ drop k ts) (sym (add-one i))

past : (ts : Terms) (i : ℕ) → slice_get ts i ≡ None → drop i ts ≡ []
past [] zero e = refl
past [] (suc i) e = refl
past (t ∷ ts) zero e = absurd (none-some t (sym e))
past (t ∷ ts) (suc i) e = past ts i e

pub form_turn : (f : FormValue) (s : List ℤ) (i x : ℕ) (k l : ℤ) (old new : List Term) (total : ℤ) → slice_get f.terms i ≡ Some (x, k) → new ≡ old ++ record { var = x; coefficient = l } ∷ [] → l ≡ k → sum_at old s +ℤ val_terms (drop i f.terms) s ≡ total → sum_at new s +ℤ val_terms (drop (i + 1) f.terms) s ≡ total
form_turn f s i x k l old new total at pushed same inv =
    let front : val_terms (drop i f.terms) s ≡ k *ℤ value_at s x +ℤ val_terms (drop (i + 1) f.terms) s = ap (λ us. val_terms us s) (at_term f.terms i (x, k) at) in
    let put : sum_at new s ≡ sum_at old s +ℤ k *ℤ value_at s x =
    ap (λ ts. sum_at ts s) pushed ∙ sum_at-push old (record { var = x; coefficient = l }) s ∙ ap (λ z. sum_at old s +ℤ z *ℤ value_at s x) same in
    omega (arith, ints, front, put, inv)

pub form_end : (f : FormValue) (s : List ℤ) (i : ℕ) (out : List Term) (c : ℤ) → slice_get f.terms i ≡ None → sum_at out s +ℤ val_terms (drop i f.terms) s ≡ val_terms f.terms s → c ≡ f.constant → sum_at out s +ℤ c ≡ val f s
form_end f s i out c at inv same =
    let none : val_terms (drop i f.terms) s ≡ pos 0 = ap (λ us. val_terms us s) (past f.terms i at) in
    omega (arith, ints, none, inv, same)
