-- When a condition is true.
use Rattle.std.specs.Prelude.{◌≡◌, ℤ, List, [], ◌∷◌, Bool, true, false, not, ◌&&◌, ◌||◌}
use Rattle.std.specs.Ordering.{int_eq}
use Rattle.std.specs.List.{AllByRecursion}
use Rattle.og_typed.specs.Syntax.{Simple}
use Rattle.og_linear.specs.Linear.{value_at, IsProper}
use Rattle.og_typed.specs.Truth.{truth}
use Rattle.og_typed.specs.Machine.{act, all_fit}
use Rattle.og_cond.specs.Condition.{Part, Yes, No, Hypothesis, Is, Starts, OneOf, Goal, Holds, Fits, Never, Condition, assignments}

abbrev pub part_true : List ℤ → Part → Bool
part_true s (Yes a) = truth a s
part_true s (No a) = not (truth a s)

abbrev pub all_parts : List ℤ → List Part → Bool
all_parts s [] = true
all_parts s (part ∷ parts) = part_true s part && all_parts s parts

abbrev pub some_parts : List ℤ → List (List Part) → Bool
some_parts s [] = false
some_parts s (parts ∷ others) = all_parts s parts || some_parts s others

abbrev pub hypothesis_true : List ℤ → Hypothesis → Bool
hypothesis_true s (Is part) = part_true s part
hypothesis_true s (Starts x v) = int_eq (value_at s x) v
hypothesis_true s (OneOf parts) = some_parts s parts

abbrev pub hypotheses_true : List ℤ → List Hypothesis → Bool
hypotheses_true s [] = true
hypotheses_true s (h ∷ hs) = hypothesis_true s h && hypotheses_true s hs

abbrev pub goal_true : List ℤ → List Simple → Goal → Bool
goal_true s action (Holds a) = truth a (act action s)
goal_true s action Fits = all_fit action s
goal_true s action Never = false

-- in every proper state in which the hypotheses are true, the goal is true
abbrev pub IsValid : Condition → Type 0
IsValid c = (s : List ℤ) → IsProper s → hypotheses_true s c.hypotheses ≡ true → goal_true s (assignments c.action) c.goal ≡ true

abbrev pub AreValid : List Condition → Type 0
AreValid = AllByRecursion IsValid
