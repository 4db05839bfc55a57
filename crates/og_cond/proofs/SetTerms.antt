-- The variables of terms, one after the other, and of lists of assertions.
use Rattle.std.proofs.Common.{◌≡◌, ℕ, zero, suc, ℤ, ◌+◌, List, [], ◌∷◌, drop, Bool, true, false, ◌&&◌, ◌||◌, nat_eq, nat_lt, Option, Some, None, refl, sym, ap, ◌∙◌, drop-cons, add-one, inl, inr}
use Rattle.std.specs.Prelude.{slice_get}
use Rattle.std.proofs.lemmas.Option.{slice_get_within, get_or_from_slice_get, none-some}
use Rattle.std.proofs.lemmas.Bool.Decides.{eqb_tells}
use Rattle.og_linear.specs.Linear.{Terms, is_term}

-- a bit that comes first, and one that comes later
pub joined : (b p q r : Bool) → (b && q || (b && p || r)) ≡ (b && (p || q) || r)
joined true true true r = refl
joined true true false r = refl
joined true false q r = refl
joined false p q r = refl

with_true : (b : Bool) → b ≡ (b && true)
with_true true = refl
with_true false = refl

with_false : (b : Bool) → false ≡ (b && false)
with_false true = refl
with_false false = refl

-- the bound of the variable that goes in is that of the one that is asked for
bound : (x v : ℕ) → (nat_eq x v && nat_lt v 256) ≡ (nat_lt x 256 && nat_eq x v)
bound x v = elim (eqb_tells x v) [
  | inl p ↦ rw (p.0) (ap (λ y. nat_lt y 256) (sym p.1) ∙ with_true (nat_lt x 256))
  | inr p ↦ rw (p.0) (with_false (nat_lt x 256))
]

at_term : (ts : Terms) (i : ℕ) (t : ℕ × ℤ) → slice_get ts i ≡ Some t → drop i ts ≡ t ∷ drop (i + 1) ts
at_term ts i t e =
    drop-cons ts i t (slice_get_within ts i t e)
    ∙ ap (λ y. y ∷ drop (suc i) ts) (get_or_from_slice_get ts i t t e)
    ∙ ap (λ k. t ∷ drop k ts) (sym (add-one i))

-- one term more
pub term_turn : (ts : Terms) (i x : ℕ) (t : ℕ × ℤ) (old : Bool) → slice_get ts i ≡ Some t
    → (nat_lt x 256 && is_term x (drop (i + 1) ts) || (nat_eq x t.0 && nat_lt t.0 256 || old)) ≡ (nat_lt x 256 && is_term x (drop i ts) || old)
term_turn ts i x t old found =
    ap (λ b. nat_lt x 256 && is_term x (drop (i + 1) ts) || (b || old)) (bound x t.0)
    ∙ joined (nat_lt x 256) (nat_eq x t.0) (is_term x (drop (i + 1) ts)) old
    ∙ ap (λ us. nat_lt x 256 && is_term x us || old) (sym (at_term ts i t found))

past : (ts : Terms) (i : ℕ) → slice_get ts i ≡ None → drop i ts ≡ []
past [] zero e = refl
past [] (suc i) e = refl
past (t ∷ ts) zero e = absurd (none-some t (sym e))
past (t ∷ ts) (suc i) e = past ts i e

-- no term more
none_left : (b old : Bool) → (b && false || old) ≡ old
none_left true old = refl
none_left false old = refl

pub term_end : (ts : Terms) (i x : ℕ) (old : Bool) → slice_get ts i ≡ None → (nat_lt x 256 && is_term x (drop i ts) || old) ≡ old
term_end ts i x old found = ap (λ us. nat_lt x 256 && is_term x us || old) (past ts i found) ∙ none_left (nat_lt x 256) old
