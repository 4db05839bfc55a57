-- The answers of tasks.
use Rattle.std.specs.Prelude.{◌≡◌, ℕ, ◌+◌, List, length, slice_get, Some}

-- one answer for each task, in order, each one that its task, counted from 1, may have
abbrev pub AreAnswers : {A : Type 0} → ℕ → (ℕ → A → Type 0) → List A → Type 0
AreAnswers {A} count is answers = (length answers ≡ count) × ((i : ℕ) (a : A) → slice_get answers i ≡ Some a → is (i + 1) a)
