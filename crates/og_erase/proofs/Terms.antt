-- The loop over the terms of a form.
use Rattle.std.proofs.Common.{◌≡◌, ◌≢◌, ℕ, zero, suc, ◌+◌, ◌<◌, ◌≤◌, ℤ, pos, negsuc, List, [], ◌∷◌, ◌++◌, length, map, take, Bool, true, Some, ap, ap₂, sym, ◌∙◌, refl, arith}
use Rattle.std.specs.Prelude.{slice_get, nat_abs, ◌==◌}
use Rattle.std.specs.List.{list_all}
use Rattle.std.proofs.lemmas.Bool.{and_parts, ne_eqb}
use Rattle.std.proofs.lemmas.Option.{none-some, same_Some, slice_get_within, get_or_from_slice_get}
use Rattle.std.proofs.lemmas.List.{map_push, take_more}
use Rattle.og_linear.specs.Linear.{Terms}
use Rattle.og_linear.specs.Tidy.{IsTidyFrom, IsTidy}
use Rattle.og_parse.specs.declared.raw.RawTerm.{RawTerm}
use Rattle.og_erase.specs.Collected.{number, term, with_constant}
use Rattle.og_erase.proofs.Turns.{if_false}

-- the i-th variable is at least i
tidy_at : (ts : Terms) (low i : ℕ) (t : ℕ × ℤ) → IsTidyFrom low ts → slice_get ts i ≡ Some t → low + i ≤ t.0
tidy_at [] low i t h e = absurd (none-some t e)
tidy_at (u ∷ us) low zero t h e = let same = ap (λ (p : ℕ × ℤ). p.0) (same_Some u t e) in omega (arith, h.0, same)
tidy_at (u ∷ us) low (suc i) t h e = let k = tidy_at us (u.0 + 1) i t h.2 e in omega (arith, k, h.0)

pub number_of_term : (ts : Terms) (i : ℕ) (t : ℕ × ℤ) → IsTidy ts → slice_get ts i ≡ Some t → i ≤ t.0
number_of_term ts i t h e = omega (arith, tidy_at ts 0 i t h e)

-- what each term passes
pub passed_at : (test : ℕ × ℤ → Bool) (ts : Terms) (i : ℕ) (t : ℕ × ℤ) → list_all test ts ≡ true → slice_get ts i ≡ Some t → test t ≡ true
passed_at test [] i t h e = absurd (none-some t e)
passed_at test (u ∷ us) zero t h e = ap test (same_Some t u (sym e)) ∙ (and_parts (test u) (list_all test us) h).0
passed_at test (u ∷ us) (suc i) t h e = passed_at test us i t (and_parts (test u) (list_all test us) h).1 e

-- one term more
pub term_turn : (names : List (List ℕ)) (out new : List RawTerm) (made : RawTerm) (ts : Terms) (i : ℕ) (t : ℕ × ℤ) → slice_get ts i ≡ Some t → new ≡ out ++ made ∷ [] → made ≡ term names t
    → out ≡ map (term names) (take i ts) → new ≡ map (term names) (take (i + 1) ts)
term_turn names out new made ts i t found pushed same h =
    pushed
    ∙ ap₂ (λ l m. l ++ m ∷ []) h same
    ∙ sym (map_push (term names) (take i ts) t)
    ∙ ap (map (term names)) (sym (take_more ts i t (slice_get_within ts i t found) ∙ ap (λ u. take i ts ++ u ∷ []) (get_or_from_slice_get ts i t t found)))

-- ---- the constant

not_zero : (c : ℤ) → c ≢ pos 0 → nat_abs c ≢ 0
not_zero (pos zero) h = λ e. h refl
not_zero (pos (suc n)) h = λ e. omega (arith, e)
not_zero (negsuc n) h = λ e. omega (arith, e)

pub put_first : (made : List RawTerm) (c : ℤ) → length made ≡ 0 → with_constant made c ≡ made ++ number c ∷ []
put_first [] c h = refl
put_first (t ∷ ts) c h = absurd (omega (arith, h))

pub put_behind : (made : List RawTerm) (c : ℤ) → c ≢ pos 0 → with_constant made c ≡ made ++ number c ∷ []
put_behind [] c h = refl
put_behind (t ∷ ts) c h = if_false (nat_abs c == 0) (t ∷ ts) (t ∷ (ts ++ number c ∷ [])) (ne_eqb (nat_abs c) 0 (not_zero c h))

pub left_out : (made : List RawTerm) (c : ℤ) → 0 < length made → c ≡ pos 0 → with_constant made c ≡ made
left_out [] c some h = absurd (omega (arith, some))
left_out (t ∷ ts) c some h = ap (with_constant (t ∷ ts)) h
