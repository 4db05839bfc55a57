-- The loop over the terms of a form.
use Rattle.std.proofs.Common.{◌≡◌, ◌++◌, ◌∙◌, ℕ, zero, suc, ◌+◌, ◌≤◌, ℤ, List, [], ◌∷◌, drop, Some, None, ap, ap₂, sym, arith, append_assoc, drop-cons, add-one, Bool, false}
use Rattle.std.specs.Prelude.{slice_get, nat_abs}
use Rattle.std.proofs.lemmas.Option.{none-some, same_Some, slice_get_within, get_or_from_slice_get}
use Rattle.std.proofs.lemmas.List.{append-nil}
use Rattle.std.proofs.Math.Seq.{drop-nil}
use Rattle.og_linear.specs.Linear.{Terms}
use Rattle.og_linear.specs.Tidy.{IsTidyFrom, IsTidy}
use Rattle.og_report_text.specs.Listing.{sign_text, times_text, terms_text}

-- the i-th variable is at least i
tidy_at : (ts : Terms) (low i : ℕ) (t : ℕ × ℤ) → IsTidyFrom low ts → slice_get ts i ≡ Some t → low + i ≤ t.0
tidy_at [] low i t h e = absurd (none-some t e)
tidy_at (u ∷ us) low zero t h e = let same = ap (λ (p : ℕ × ℤ). p.0) (same_Some u t e) in omega (arith, h.0, same)
tidy_at (u ∷ us) low (suc i) t h e = let k = tidy_at us (u.0 + 1) i t h.2 e in omega (arith, k, h.0)

pub number_of_term : (ts : Terms) (i : ℕ) (t : ℕ × ℤ) → IsTidy ts → slice_get ts i ≡ Some t → i ≤ t.0
number_of_term ts i t h e = omega (arith, tidy_at ts 0 i t h e)

-- the i-th term, and those after it
drop_term : (ts : Terms) (i : ℕ) (t : ℕ × ℤ) → slice_get ts i ≡ Some t → drop i ts ≡ t ∷ drop (i + 1) ts
drop_term ts i t found = drop-cons ts i t (slice_get_within ts i t found) ∙ ap₂ (λ u j. u ∷ drop j ts) (get_or_from_slice_get ts i t t found) (sym (add-one i))

-- there are none after the end
pub no_terms_left : (names : List (List ℕ)) (text : List ℕ) (ts : Terms) (i : ℕ) (first : Bool) → slice_get ts i ≡ None → text ≡ text ++ terms_text names first (drop i ts)
no_terms_left names text ts i first e = left (drop i ts) (gone ts i e)
  where
    gone : (ts : Terms) (i : ℕ) → slice_get ts i ≡ None → drop i ts ≡ []
    gone [] i e = drop-nil i
    gone (u ∷ us) zero e = absurd (none-some u (sym e))
    gone (u ∷ us) (suc i) e = gone us i e

    left : (l : Terms) → l ≡ [] → text ≡ text ++ terms_text names first l
    left l e = sym (append-nil text) ∙ ap (λ k. text ++ terms_text names first k) (sym e)

-- one term more
pub more_terms : (names : List (List ℕ)) (before signed timed whole : List ℕ) (ts : Terms) (i n : ℕ) (first : Bool) (t : ℕ × ℤ) → slice_get ts i ≡ Some t
    → signed ≡ before ++ sign_text first t.1 → timed ≡ signed ++ times_text names n t.0 → n ≡ nat_abs t.1
    → before ++ terms_text names first (drop i ts) ≡ whole → timed ++ terms_text names false (drop (i + 1) ts) ≡ whole
more_terms names before signed timed whole ts i n first t found s m same h =
    let later = terms_text names false (drop (i + 1) ts) in
    ap (λ l. l ++ later) (m ∙ ap₂ (λ l k. l ++ times_text names k t.0) s same)
    ∙ append_assoc (before ++ sign_text first t.1) (times_text names (nat_abs t.1) t.0) later
    ∙ append_assoc before (sign_text first t.1) (times_text names (nat_abs t.1) t.0 ++ later)
    ∙ ap (λ l. before ++ terms_text names first l) (sym (drop_term ts i t found))
    ∙ h
