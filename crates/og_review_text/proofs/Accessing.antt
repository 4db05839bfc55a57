-- The variables that a step uses in each way.
use Rattle.std.proofs.Common.{◌≡◌, ◌∙◌, ◌⊎◌, ◌<◌, ◌||◌, ◌&&◌, inl, inr, refl, sym, ap, ℕ, zero, suc, Bool, true, false, cond, List, [], ◌∷◌, length, arith}
use Rattle.std.specs.Prelude.{Contains, not, filter, slice_index_or}
use Rattle.std.specs.List.{list_any, range_with_len}
use Rattle.std.proofs.lemmas.Bool.{and_parts, and_from, true≢false}
use Rattle.std.proofs.lemmas.List.FromFn.{length-range_with_len, get_or-range_with_len}
use Rattle.og_review_text.specs.Law.{IsAssignedBeside, IsUsedBeside, BothAreThese, ReadsAreThese, WritesAreThese}
use Rattle.og_review_text.specs.Steps.{Step, reads, assigns, is_beside, is_set_beside, is_used_beside, reads_shared, writes_shared, is_accessed, accessed}
use Rattle.og_review_text.specs.declared.steps.Access.TheVariants as access

-- ---- elements of lists, by cases on the list

abbrev pub Member : {X : Type 0} → List X → X → Type 0
Member [] x = ⊥
Member (y ∷ ys) x = (y ≡ x) ⊎ Member ys x

member_at : {X : Type 0} (xs : List X) (x : X) (k : ℕ) → k < length xs → slice_index_or xs k x ≡ x → Member xs x
member_at [] x k lt is = absurd (omega (arith, lt))
member_at (y ∷ ys) x zero lt is = inl is
member_at (y ∷ ys) x (suc k) lt is = inr (member_at ys x k (omega (arith, lt)) is)

pub member : {X : Type 0} (xs : List X) (x : X) → Contains xs x → Member xs x
member xs x h = member_at xs x h.0 h.1 h.2

contains : {X : Type 0} (xs : List X) (x : X) → Member xs x → Contains xs x
contains [] x m = absurd m
contains (y ∷ ys) x (inl is) = (0, omega arith, is)
contains (y ∷ ys) x (inr m) = let h = contains ys x m in let lt = h.1 in (suc h.0, omega (arith, lt), h.2)

-- ---- filtered lists, and tests of elements

kept : {X : Type 0} (p : X → Bool) (xs : List X) (x : X) → p x ≡ true → Member xs x → Member (filter p xs) x
kept p [] x passes m = absurd m
kept p (y ∷ ys) x passes m = go (p y) refl (kept p ys x passes) m
  where
    go : (b : Bool) → p y ≡ b → (Member ys x → Member (filter p ys) x) → (y ≡ x) ⊎ Member ys x → Member (cond b (y ∷ filter p ys) (filter p ys)) x
    go true e later (inl is) = inl is
    go true e later (inr h) = inr (later h)
    go false e later (inl is) = absurd (true≢false (sym passes ∙ (ap p (sym is) ∙ e)))
    go false e later (inr h) = later h

was_kept : {X : Type 0} (p : X → Bool) (xs : List X) (x : X) → Member (filter p xs) x → Member xs x × (p x ≡ true)
was_kept p [] x m = absurd m
was_kept p (y ∷ ys) x m = go (p y) refl (was_kept p ys x) m
  where
    go : (b : Bool) → p y ≡ b → (Member (filter p ys) x → Member ys x × (p x ≡ true)) → Member (cond b (y ∷ filter p ys) (filter p ys)) x → ((y ≡ x) ⊎ Member ys x) × (p x ≡ true)
    go true e later (inl is) = (inl is, ap p (sym is) ∙ e)
    go true e later (inr h) = (inr (later h).0, (later h).1)
    go false e later h = (inr (later h).0, (later h).1)

some_passes : {X : Type 0} (p : X → Bool) (xs : List X) → list_any p xs ≡ true → (x : X) × Member xs x × (p x ≡ true)
some_passes p [] e = absurd (true≢false (sym e))
some_passes {X = X} p (y ∷ ys) e = go (p y) refl (some_passes p ys) e
  where
    go : (b : Bool) → p y ≡ b → (list_any p ys ≡ true → (x : X) × Member ys x × (p x ≡ true)) → (b || list_any p ys) ≡ true → (x : X) × ((y ≡ x) ⊎ Member ys x) × (p x ≡ true)
    go true is later h = (y, inl refl, is)
    go false is later h = ((later h).0, inr (later h).1, (later h).2)

passes_some : {X : Type 0} (p : X → Bool) (xs : List X) (x : X) → p x ≡ true → Member xs x → list_any p xs ≡ true
passes_some p [] x passes m = absurd m
passes_some p (y ∷ ys) x passes m = go (p y) refl (passes_some p ys x passes) m
  where
    go : (b : Bool) → p y ≡ b → (Member ys x → list_any p ys ≡ true) → (y ≡ x) ⊎ Member ys x → (b || list_any p ys) ≡ true
    go true e later h = refl
    go false e later (inl is) = absurd (true≢false (sym passes ∙ (ap p (sym is) ∙ e)))
    go false e later (inr h) = later h

-- ---- the variables of a step

below : (n x : ℕ) → x < n → Contains (range_with_len 0 n) x
below n x lt =
    let size = length-range_with_len 0 n in
    let at = get_or-range_with_len 0 n x x lt in
    (x, omega (arith, size, lt), omega (arith, at))

was_below : (n x : ℕ) → Contains (range_with_len 0 n) x → x < n
was_below n x h =
    let size = length-range_with_len 0 n in
    let within = h.1 in
    let lt : h.0 < n = omega (arith, size, within) in
    let at = get_or-range_with_len 0 n h.0 x lt in
    let is = h.2 in
    omega (arith, at, is, lt)

beside_to : (all : List Step) (step : Step) (x : ℕ) → list_any (is_set_beside step.part x) all ≡ true → IsAssignedBeside all step x
beside_to all step x h =
    let some = some_passes (is_set_beside step.part x) all h in
    let both = and_parts (is_beside step.part some.0.part) (assigns x some.0.stmt) some.2 in
    (some.0, contains all some.0 some.1, both.0, both.1)

beside_from : (all : List Step) (step : Step) (x : ℕ) → IsAssignedBeside all step x → list_any (is_set_beside step.part x) all ≡ true
beside_from all step x h =
    passes_some (is_set_beside step.part x) all h.0 (and_from (is_beside step.part h.0.part) (assigns x h.0.stmt) h.2 h.3) (member all h.0 h.1)

-- who assigns it uses it
used_from : (all : List Step) (step : Step) (x : ℕ) → IsAssignedBeside all step x → list_any (is_used_beside step.part x) all ≡ true
used_from all step x h =
    passes_some (is_used_beside step.part x) all h.0 (and_from (is_beside step.part h.0.part) (reads x h.0.stmt || assigns x h.0.stmt) h.2 (or_last (reads x h.0.stmt) (assigns x h.0.stmt) h.3)) (member all h.0 h.1)
  where
    or_last : (a b : Bool) → b ≡ true → (a || b) ≡ true
    or_last true b e = refl
    or_last false b e = e

pub both_are_these : BothAreThese
both_are_these all n x step =
    let passes = is_accessed all step access.ReadsAndWrites in
    let some_sets = list_any (is_set_beside step.part x) all in
    let some_uses = list_any (is_used_beside step.part x) all in (
      λ h.
          let found = was_kept passes (range_with_len 0 n) x (member (accessed all n step access.ReadsAndWrites) x h) in
          let both = and_parts (reads_shared all step x) (writes_shared all step x) found.1 in
          let read = and_parts (reads x step.stmt) some_sets both.0 in
          let written = and_parts (assigns x step.stmt) some_uses both.1 in
          (was_below n x (contains (range_with_len 0 n) x found.0), read.0, written.0, beside_to all step x read.1),
      λ h.
          let read = and_from (reads x step.stmt) some_sets h.1 (beside_from all step x h.3) in
          let written = and_from (assigns x step.stmt) some_uses h.2 (used_from all step x h.3) in
          contains (accessed all n step access.ReadsAndWrites) x
          (kept passes (range_with_len 0 n) x (and_from (reads_shared all step x) (writes_shared all step x) read written) (member (range_with_len 0 n) x (below n x h.0))),
    )

used_to : (all : List Step) (step : Step) (x : ℕ) → list_any (is_used_beside step.part x) all ≡ true → IsUsedBeside all step x
used_to all step x h =
    let some = some_passes (is_used_beside step.part x) all h in
    let both = and_parts (is_beside step.part some.0.part) (reads x some.0.stmt || assigns x some.0.stmt) some.2 in
    (some.0, contains all some.0 some.1, both.0, both.1)

is_used : (all : List Step) (step : Step) (x : ℕ) → IsUsedBeside all step x → list_any (is_used_beside step.part x) all ≡ true
is_used all step x h =
    passes_some (is_used_beside step.part x) all h.0 (and_from (is_beside step.part h.0.part) (reads x h.0.stmt || assigns x h.0.stmt) h.2 h.3) (member all h.0 h.1)

-- of two tests that are not both passed, one is failed
first_fails : (a b : Bool) → not (a && b) ≡ true → b ≡ true → a ≡ false
first_fails true true e h = absurd (true≢false (sym e))
first_fails true false e h = absurd (true≢false (sym h))
first_fails false b e h = refl

not_both : (a b : Bool) → not (a && b) ≡ true → a ≡ true → b ≡ true → ⊥
not_both a b e f h = true≢false (sym f ∙ first_fails a b e h)

one_fails : (a b : Bool) → (a ≡ true → b ≡ true → ⊥) → not (a && b) ≡ true
one_fails true true h = absurd (h refl refl)
one_fails true false h = refl
one_fails false b h = refl

pub reads_are_these : ReadsAreThese
reads_are_these all n x step =
    let passes = is_accessed all step access.Reads in
    let some_sets = list_any (is_set_beside step.part x) all in
    let some_uses = list_any (is_used_beside step.part x) all in (
      λ h.
          let found = was_kept passes (range_with_len 0 n) x (member (accessed all n step access.Reads) x h) in
          let both = and_parts (reads_shared all step x) (not (writes_shared all step x)) found.1 in
          let read = and_parts (reads x step.stmt) some_sets both.0 in
          let beside = beside_to all step x read.1 in
          (was_below n x (contains (range_with_len 0 n) x found.0), read.0, first_fails (assigns x step.stmt) some_uses both.1 (used_from all step x beside), beside),
      λ h.
          let read = and_from (reads x step.stmt) some_sets h.1 (beside_from all step x h.3) in
          let unwritten = one_fails (assigns x step.stmt) some_uses (λ e _. true≢false (sym e ∙ h.2)) in
          contains (accessed all n step access.Reads) x
          (kept passes (range_with_len 0 n) x (and_from (reads_shared all step x) (not (writes_shared all step x)) read unwritten) (member (range_with_len 0 n) x (below n x h.0))),
    )

pub writes_are_these : WritesAreThese
writes_are_these all n x step =
    let passes = is_accessed all step access.Writes in
    let some_sets = list_any (is_set_beside step.part x) all in
    let some_uses = list_any (is_used_beside step.part x) all in (
      λ h.
          let found = was_kept passes (range_with_len 0 n) x (member (accessed all n step access.Writes) x h) in
          let both = and_parts (not (reads_shared all step x)) (writes_shared all step x) found.1 in
          let written = and_parts (assigns x step.stmt) some_uses both.1 in
          (was_below n x (contains (range_with_len 0 n) x found.0), written.0, used_to all step x written.1, λ r b. not_both (reads x step.stmt) some_sets both.0 r (beside_from all step x b)),
      λ h.
          let unread = one_fails (reads x step.stmt) some_sets (λ r s. h.3 r (beside_to all step x s)) in
          let written = and_from (assigns x step.stmt) some_uses h.1 (is_used all step x h.2) in
          contains (accessed all n step access.Writes) x
          (kept passes (range_with_len 0 n) x (and_from (not (reads_shared all step x)) (writes_shared all step x) unread written) (member (range_with_len 0 n) x (below n x h.0))),
    )
