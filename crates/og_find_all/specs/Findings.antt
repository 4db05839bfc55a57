-- The findings on the conditions of a list.
use Rattle.std.specs.Prelude.{◌≡◌, ◌⊎◌, ℕ, ◌+◌, ◌-◌, List, length, Option, Some, None, IsSomeAnd, slice_get}
use Rattle.std.specs.Global.{Box}
use Rattle.og_cond.specs.Condition.{Condition}
use Rattle.og_find.specs.Found.{IsVerdict}
use Rattle.og_find.specs.declared.verdict.Verdict.{Verdict}
use Rattle.og_find_all.specs.declared.findings.Findings.{Findings}
use Rattle.og_find_all.specs.declared.leading.Follower.{Follower}

abbrev pub verdict_at : List Verdict → Option ℕ → Option Verdict
verdict_at verdicts None = None
verdict_at verdicts (Some place) = slice_get verdicts place

-- a condition's own verdict, or else the shared one
abbrev pub own_or : Option (Option (Box Verdict)) → Option Verdict → Option Verdict
own_or None shared = None
own_or (Some None) shared = shared
own_or (Some (Some own)) shared = Some own.value

abbrev pub verdict_in : List (Option (Box Verdict)) → List ℕ → List Verdict → ℕ → Option Verdict
verdict_in own places verdicts i = own_or (slice_get own i) (verdict_at verdicts (slice_get places i))

-- the verdict on the condition at this index, from 0
abbrev pub verdict_of : Findings → ℕ → Option Verdict
verdict_of f = verdict_in f.own.items f.places.items f.verdicts.items

-- there is a verdict for each condition and no other, and it is true of the condition
abbrev pub AreVerdicts : List Condition → Findings → Type 0
AreVerdicts cs f = (length f.own.items ≡ length cs) × ((i : ℕ) (c : Condition) → slice_get cs i ≡ Some c → IsSomeAnd (verdict_of f i) (IsVerdict c))

-- ---- what the workers answer

-- the verdict is true of the condition at this index, if there is one
abbrev pub IsVerdictAt : List Condition → ℕ → Verdict → Type 0
IsVerdictAt cs i v = (c : Condition) → slice_get cs i ≡ Some c → IsVerdict c v

-- the verdict is true of the condition whose index is the n-th of these, from 1
abbrev pub IsSearched : List Condition → List ℕ → ℕ → Verdict → Type 0
IsSearched cs indices n v = (i : ℕ) → slice_get indices (n - 1) ≡ Some i → IsVerdictAt cs i v

-- there are as many verdicts as first conditions, and each is true of its own
abbrev pub AreOfFirsts : List Condition → List ℕ → List Verdict → Type 0
AreOfFirsts cs firsts verdicts =
    (length firsts ≡ length verdicts) × ((place i : ℕ) (v : Verdict) → slice_get firsts place ≡ Some i → slice_get verdicts place ≡ Some v → IsVerdictAt cs i v)

-- the place holds a verdict that is true of the condition at this index
abbrev pub IsKnownAt : List Condition → List Verdict → ℕ → ℕ → Type 0
IsKnownAt cs verdicts i place = (v : Verdict) × (slice_get verdicts place ≡ Some v) × IsVerdictAt cs i v

-- the verdict at each noted place is true of its condition
abbrev pub AreKnown : List Condition → List Verdict → List (Option ℕ) → Type 0
AreKnown cs verdicts known = (i place : ℕ) → slice_get known i ≡ Some (Some place) → IsKnownAt cs verdicts i place

-- the verdict is true of the condition, or without one that of its leader is
abbrev pub IsOwnOrLed : Condition → List Verdict → Option ℕ → Option Verdict → Type 0
IsOwnOrLed c verdicts leader None = IsSomeAnd leader (λ place. IsSomeAnd (slice_get verdicts place) (IsVerdict c))
IsOwnOrLed c verdicts leader (Some own) = IsVerdict c own

-- the verdict of a follower's own is true of it, or without one that of its leader is
abbrev pub IsTried : List Condition → List Verdict → Follower → Option (Box Verdict) → Type 0
IsTried cs verdicts f None = IsSomeAnd f.leader (IsKnownAt cs verdicts f.index)
IsTried cs verdicts f (Some own) = IsVerdictAt cs f.index own.value

-- the same of the n-th follower, from 1
abbrev pub IsTriedOf : List Condition → List Verdict → List Follower → ℕ → Option (Box Verdict) → Type 0
IsTriedOf cs verdicts followers n own = (f : Follower) → slice_get followers (n - 1) ≡ Some f → IsTried cs verdicts f own

-- the same of each follower
abbrev pub AreTried : List Condition → List Verdict → List Follower → List (Option (Box Verdict)) → Type 0
AreTried cs verdicts followers own = (i : ℕ) (o : Option (Box Verdict)) → slice_get own i ≡ Some o → IsTriedOf cs verdicts followers (i + 1) o

-- the verdict at the condition's place was known to be true of it, or is seen to be
abbrev pub IsServed : List Condition → List ℕ → List (Option ℕ) → List Verdict → ℕ → Type 0
IsServed cs places known verdicts i =
    (place : ℕ) × (v : Verdict) × (slice_get places i ≡ Some place) × (slice_get verdicts place ≡ Some v) × ((slice_get known i ≡ Some (Some place)) ⊎ IsVerdictAt cs i v)

-- condition n, from 1, has that verdict, or one of its own, which is true of it
abbrev pub IsChecked : List Condition → List ℕ → List (Option ℕ) → List Verdict → ℕ → Option (Box Verdict) → Type 0
IsChecked cs places known verdicts n None = IsServed cs places known verdicts (n - 1)
IsChecked cs places known verdicts n (Some own) = IsVerdictAt cs (n - 1) own.value
