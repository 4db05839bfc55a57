-- Equal forms, by their terms.
use Rattle.std.proofs.Common.{◌≡◌, ℕ, zero, suc, ◌+◌, ◌<◌, ◌≤◌, ℤ, List, [], map, ◌∷◌, ◌++◌, length, take, get_or, Some, None, refl, sym, ap, ap₂, ◌∙◌, arith}
use Rattle.std.specs.Prelude.{slice_get, option_map}
use Rattle.std.proofs.lemmas.List.{take_more, take_all}
use Rattle.std.proofs.lemmas.Option.{none-some, same_Some, slice_get_within, slice_get_read, slice_get-map, get_or_from_slice_get}
use Rattle.og_linear.specs.Linear.{Terms, FormValue, form_value}
use Rattle.og_linear.specs.Tidy.{IsTidyFrom, IsTidy}

-- the i-th variable is at least i
tidy_at : (ts : Terms) (low i : ℕ) (t : ℕ × ℤ) → IsTidyFrom low ts → slice_get ts i ≡ Some t → low + i ≤ t.0
tidy_at [] low i t h e = absurd (none-some t e)
tidy_at (u ∷ us) low zero t h e = let same = ap (λ (p : ℕ × ℤ). p.0) (same_Some u t e) in omega (arith, h.0, same)
tidy_at (u ∷ us) low (suc i) t h e = let k = tidy_at us (u.0 + 1) i t h.2 e in omega (arith, k, h.0)

pub number_of_term : (ts : Terms) (i : ℕ) (t : ℕ × ℤ) → IsTidy ts → slice_get ts i ≡ Some t → i ≤ t.0
number_of_term ts i t h e = omega (arith, tidy_at ts 0 i t h e)

-- one term more
pub same_turn : (ts us : Terms) (i : ℕ) (t u : ℕ × ℤ) → slice_get ts i ≡ Some t → slice_get us i ≡ Some u → t ≡ u → take i ts ≡ take i us → take (i + 1) ts ≡ take (i + 1) us
same_turn ts us i t u e d same h =
    take_more ts i t (slice_get_within ts i t e)
    ∙ ap₂ (λ front v. front ++ v ∷ []) h (get_or_from_slice_get ts i t t e ∙ same ∙ sym (get_or_from_slice_get us i u u d))
    ∙ sym (take_more us i u (slice_get_within us i u d))

past : (ts : Terms) (i : ℕ) → slice_get ts i ≡ None → length ts ≤ i
past [] i e = omega arith
past (t ∷ ts) zero e = absurd (none-some t (sym e))
past (t ∷ ts) (suc i) e = let k = past ts i e in omega (arith, k)

-- no terms more
pub same_end : (f g : FormValue) (i : ℕ) → slice_get f.terms i ≡ None → slice_get g.terms i ≡ None → take i f.terms ≡ take i g.terms → f.terms ≡ g.terms
same_end f g i e d h =
    sym (take_all i f.terms (past f.terms i e)) ∙ h ∙ take_all i g.terms (past g.terms i d)

pub same_form : (f g : FormValue) → f.terms ≡ g.terms → f.constant ≡ g.constant → f ≡ g
same_form f g e d = ap₂ form_value e d

-- ---- lists

-- lists that are seen as equal have elements that are seen as equal
pub same_at : {X Y : Type 0} (view : X → Y) (xs ys : List X) (i : ℕ) (x y : X) → i < length xs → length xs ≡ length ys → x ≡ get_or xs i x → y ≡ get_or ys i y → map view xs ≡ map view ys → view x ≡ view y
same_at view xs ys i x y h long is_x is_y e =
    let in_ys : i < length ys = omega (arith, h, long) in
    same_Some (view x) (view y)
    (ap (option_map view) (sym (slice_get_read xs (length xs) i x refl h is_x))
    ∙ sym (slice_get-map view xs i)
    ∙ ap (λ l. slice_get l i) e
    ∙ slice_get-map view ys i
    ∙ ap (option_map view) (slice_get_read ys (length ys) i y refl in_ys is_y))
