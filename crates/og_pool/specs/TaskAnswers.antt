-- The answers of the workers.
use Rattle.std.specs.Prelude.{◌≡◌, ℕ, ◌+◌, ◌<◌, List, Option, Some, slice_get}
use Rattle.std.specs.List.{All}
use Rattle.og_pool.specs.Drawing.{past, times, Source, Part}
use Rattle.og_pool.specs.declared.answered.TaskAnswer.{TaskAnswer}

-- an answer that the task may have
abbrev pub IsRight : {A : Type 0} → (ℕ → A → Type 0) → TaskAnswer A → Type 0
IsRight is t = (0 < t.number) × is t.number t.answer

-- the task n is answered
abbrev pub HasAnswer : {A : Type 0} → List (TaskAnswer A) → ℕ → Type 0
HasAnswer {A} answered n = (k : ℕ) × (t : TaskAnswer A) × (slice_get answered k ≡ Some t) × (t.number ≡ n)

-- a number past the tasks was drawn, and each task that was drawn has an answer that it may have
abbrev pub DrawsDone : {A : Type 0} → ℕ → (ℕ → A → Type 0) → List ℕ → List (TaskAnswer A) → Type 0
DrawsDone count is drawn answered = (0 < past count drawn) × All (IsRight is) answered × ((x : ℕ) → x < count → 0 < times x drawn → HasAnswer answered (x + 1))

-- a part of several workers has drawn until nothing was left
abbrev pub PartDone : {A : Type 0} → Source → ℕ → (ℕ → A → Type 0) → Part → List (TaskAnswer A) → Type 0
PartDone source several is part answered = (part.source ≡ source) × (part.workers ≡ several) × DrawsDone source.count is part.drawn answered

-- ---- slots

-- this slot has an answer
abbrev pub IsFilled : {A : Type 0} → List (Option A) → ℕ → Type 0
IsFilled {A} slots i = (a : A) × (slice_get slots i ≡ Some (Some a))

-- each answer in a slot is one that the task may have
abbrev pub AreRight : {A : Type 0} → (ℕ → A → Type 0) → List (Option A) → Type 0
AreRight {A} is slots = (i : ℕ) (a : A) → slice_get slots i ≡ Some (Some a) → is (i + 1) a
