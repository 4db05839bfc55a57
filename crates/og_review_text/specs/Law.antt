-- How the definitions of a step's accesses read.
use Rattle.std.specs.Prelude.{◌≡◌, ◌<◌, ◌↔◌, ℕ, List, true, false, ◌||◌, Contains}
use Rattle.og_review_text.specs.Steps.{Step, reads, assigns, is_beside, accessed}
use Rattle.og_review_text.specs.declared.steps.Access.TheVariants as access

-- some step of another process assigns the variable x
abbrev pub IsAssignedBeside : List Step → Step → ℕ → Type 0
IsAssignedBeside all step x = (other : Step) × Contains all other × (is_beside step.part other.part ≡ true) × (assigns x other.stmt ≡ true)

-- some step of another process reads or assigns it
abbrev pub IsUsedBeside : List Step → Step → ℕ → Type 0
IsUsedBeside all step x =
    (other : Step) × Contains all other × (is_beside step.part other.part ≡ true) × ((reads x other.stmt || assigns x other.stmt) ≡ true)

-- a variable that a step reads and writes is below n; the step reads and assigns it, and some step of another process assigns it
abbrev pub BothAreThese : Type 0
BothAreThese =
    (all : List Step) (n x : ℕ) (step : Step)
    → Contains (accessed all n step access.ReadsAndWrites) x ↔ ((x < n) × (reads x step.stmt ≡ true) × (assigns x step.stmt ≡ true) × IsAssignedBeside all step x)

-- one that it reads alone is below n; the step reads it and does not assign it, and some step of another process assigns it
abbrev pub ReadsAreThese : Type 0
ReadsAreThese =
    (all : List Step) (n x : ℕ) (step : Step)
    → Contains (accessed all n step access.Reads) x ↔ ((x < n) × (reads x step.stmt ≡ true) × (assigns x step.stmt ≡ false) × IsAssignedBeside all step x)

-- one that it writes alone is below n; the step assigns it, some step of another process reads or assigns it, and if the step reads it too, none assigns it
abbrev pub WritesAreThese : Type 0
WritesAreThese =
    (all : List Step) (n x : ℕ) (step : Step)
    → Contains (accessed all n step access.Writes) x
    ↔ ((x < n) × (assigns x step.stmt ≡ true) × IsUsedBeside all step x × (reads x step.stmt ≡ true → IsAssignedBeside all step x → ⊥))
