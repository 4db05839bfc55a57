-- How many facts a condition has, by its structure alone.
use Rattle.std.specs.Prelude.{ℕ, ◌+◌, List, [], ◌∷◌, map}
use Rattle.og_typed.specs.Syntax.{Formula, Formulas, True, False, Le, Eq, Ne, Not, And, Or, Imp, none, more}
use Rattle.og_cond.specs.Condition.{Part, Yes, No, Hypothesis, Is, Starts, OneOf, Goal, Holds, Fits, Never, Condition}

-- a split counts as one fact, but one of a single part as that part
abbrev pub split_count : List ℕ → ℕ
split_count [] = 1
split_count (n ∷ []) = n
split_count (n ∷ m ∷ ns) = 1

abbrev mutual
  pub count_yes : Formula → ℕ
  count_yes True = 0
  count_yes False = 1
  count_yes (Le f) = 1
  count_yes (Eq f) = 2
  count_yes (Ne f) = 1
  count_yes (Not a) = count_no a
  count_yes (And all) = count_yes_all all
  count_yes (Or all) = split_count (counts_yes all)
  count_yes (Imp a b) = 1

  pub count_no : Formula → ℕ
  count_no True = 1
  count_no False = 0
  count_no (Le f) = 1
  count_no (Eq f) = 1
  count_no (Ne f) = 2
  count_no (Not a) = count_yes a
  count_no (And all) = split_count (counts_no all)
  count_no (Or all) = count_no_all all
  count_no (Imp a b) = count_yes a + count_no b

  pub count_yes_all : Formulas → ℕ
  count_yes_all none = 0
  count_yes_all (more a rest) = count_yes a + count_yes_all rest

  pub count_no_all : Formulas → ℕ
  count_no_all none = 0
  count_no_all (more a rest) = count_no a + count_no_all rest

  pub counts_yes : Formulas → List ℕ
  counts_yes none = []
  counts_yes (more a rest) = count_yes a ∷ counts_yes rest

  pub counts_no : Formulas → List ℕ
  counts_no none = []
  counts_no (more a rest) = count_no a ∷ counts_no rest

abbrev pub count_part : Part → ℕ
count_part (Yes a) = count_yes a
count_part (No a) = count_no a

abbrev pub count_parts : List Part → ℕ
count_parts [] = 0
count_parts (p ∷ ps) = count_part p + count_parts ps

abbrev pub count_hypothesis : Hypothesis → ℕ
count_hypothesis (Is p) = count_part p
count_hypothesis (Starts x v) = 2
count_hypothesis (OneOf parts) = split_count (map count_parts parts)

abbrev pub count_hypotheses : List Hypothesis → ℕ
count_hypotheses [] = 0
count_hypotheses (h ∷ hs) = count_hypothesis h + count_hypotheses hs

-- that the values do not all fit is one fact, and a goal that cannot be true adds none
abbrev pub count_goal : Goal → ℕ
count_goal (Holds a) = count_no a
count_goal Fits = 1
count_goal Never = 0

abbrev pub count : Condition → ℕ
count c = count_hypotheses c.hypotheses + count_goal c.goal
