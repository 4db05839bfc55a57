-- Parts and hypotheses among others.
use Rattle.std.proofs.Common.{◌≡◌, ℕ, zero, suc, ℤ, List, [], ◌∷◌, Bool, true, false, ◌||◌, Some, slice_get, refl, sym, ap, ◌∙◌, ◌⊎◌, inl, inr}
use Rattle.std.proofs.lemmas.Bool.{and_parts, both_ways}
use Rattle.std.proofs.lemmas.Option.{same_Some, none-some}
use Rattle.og_cond.specs.Condition.{Part, Hypothesis}
use Rattle.og_cond.specs.Valid.{part_true, all_parts, some_parts, hypothesis_true, hypotheses_true}

-- where all are true, each is
pub part_at : (s : List ℤ) (parts : List Part) (k : ℕ) (part : Part) → slice_get parts k ≡ Some part → all_parts s parts ≡ true → part_true s part ≡ true
part_at s [] k part e h = absurd (none-some part e)
part_at s (p ∷ parts) zero part e h = ap (part_true s) (sym (same_Some p part e)) ∙ (and_parts (part_true s p) (all_parts s parts) h).0
part_at s (p ∷ parts) (suc k) part e h = part_at s parts k part e (and_parts (part_true s p) (all_parts s parts) h).1

pub hypothesis_at : (s : List ℤ) (hs : List Hypothesis) (k : ℕ) (h : Hypothesis) → slice_get hs k ≡ Some h → hypotheses_true s hs ≡ true → hypothesis_true s h ≡ true
hypothesis_at s [] k h e all = absurd (none-some h e)
hypothesis_at s (g ∷ hs) zero h e all = ap (hypothesis_true s) (sym (same_Some g h e)) ∙ (and_parts (hypothesis_true s g) (hypotheses_true s hs) all).0
hypothesis_at s (g ∷ hs) (suc k) h e all = hypothesis_at s hs k h e (and_parts (hypothesis_true s g) (hypotheses_true s hs) all).1

either : (a b : Bool) → (a || b) ≡ true → (a ≡ true) ⊎ (b ≡ true)
either true b e = inl refl
either false b e = inr e

-- where no list has all its parts true
pub none_of : (s : List ℤ) (lists : List (List Part)) → ((k : ℕ) (parts : List Part) → slice_get lists k ≡ Some parts → all_parts s parts ≡ true → ⊥) → some_parts s lists ≡ true → ⊥
none_of s [] none e = both_ways false refl e
none_of s (parts ∷ lists) none e = go (λ h. none_of s lists (λ k ps at. none (suc k) ps at) h) (either (all_parts s parts) (some_parts s lists) e)
  where
    go : (some_parts s lists ≡ true → ⊥) → (all_parts s parts ≡ true) ⊎ (some_parts s lists ≡ true) → ⊥
    go later (inl h) = none 0 parts refl h
    go later (inr h) = later h
