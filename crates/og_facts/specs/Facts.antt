-- The facts of a condition: linear inequalities, and splits into parts, that are all true exactly where the hypotheses are true and the goal is false.
use Rattle.std.specs.Prelude.{ℕ, pos, negsuc, neg_ℤ, ◌+ℤ◌, List, [], ◌∷◌, ◌++◌, map, Bool, true, ◌&&◌, if◌then◌else◌, nat_lt, Option, Some, None, Result, Ok, Err, option_and_then, option_map}
use Rattle.og_linear.specs.Linear.{FormValue, form_value}
use Rattle.og_linear.specs.Arith.{scaled}
use Rattle.og_linear.specs.Bounded.{fits_form}
use Rattle.og_typed.specs.Syntax.{Formula, Formulas, True, False, Le, Eq, Ne, Not, And, Or, Imp, none, more, Simple}
use Rattle.og_subst.specs.Subst.{forward, after_action, fits}
use Rattle.og_cond.specs.Condition.{assignments, Part, Yes, No, Hypothesis, Is, Starts, OneOf, Goal, Holds, Fits, Never, Condition}
use Rattle.og_facts.specs.declared.fault.FactsFault.{FactsFault}
use Rattle.og_facts.specs.declared.fault.FactsFault.TheVariants as faults
use Rattle.og_facts.specs.Counts.{count}

mutual
  pub data Fact : Type 0 where
    -- the form is at most 0
    Atom : FormValue → Fact
    -- all facts of one of the parts
    Split : Parts → Fact

  pub data Parts : Type 0 where
    no_part : Parts
    part : Facts → Parts → Parts

  pub data Facts : Type 0 where
    no_fact : Facts
    fact : Fact → Facts → Facts

abbrev pub facts_of_list : List Fact → Facts
facts_of_list [] = no_fact
facts_of_list (f ∷ fs) = fact f (facts_of_list fs)

abbrev pub list_of_facts : Facts → List Fact
list_of_facts no_fact = []
list_of_facts (fact f fs) = f ∷ list_of_facts fs

abbrev pub parts_of_list : List (List Fact) → Parts
parts_of_list [] = no_part
parts_of_list (p ∷ ps) = part (facts_of_list p) (parts_of_list ps)

abbrev pub list_of_parts : Parts → List (List Fact)
list_of_parts no_part = []
list_of_parts (part p ps) = list_of_facts p ∷ list_of_parts ps

-- ---- the table

-- 1 is at most 0
abbrev pub impossible : Fact
impossible = Atom (form_value [] (pos 1))

abbrev pub plus_one : FormValue → FormValue
plus_one f = form_value f.terms (f.constant +ℤ pos 1)

abbrev pub negated : FormValue → FormValue
negated f = scaled (negsuc 0) f

-- one of several parts: no part is impossible, and a single part stands for itself
abbrev pub split : List (List Fact) → List Fact
split [] = impossible ∷ []
split (p ∷ []) = p
split (p ∷ q ∷ ps) = Split (parts_of_list (p ∷ q ∷ ps)) ∷ []

abbrev pub equal : FormValue → List Fact
equal f = Atom f ∷ Atom (negated f) ∷ []

abbrev pub apart : FormValue → List Fact
apart f = split ((Atom (plus_one f) ∷ []) ∷ (Atom (plus_one (negated f)) ∷ []) ∷ [])

-- the facts that say that an assertion is true, and those that say that it is false
abbrev mutual
  pub yes : Formula → List Fact
  yes True = []
  yes False = impossible ∷ []
  yes (Le f) = Atom f ∷ []
  yes (Eq f) = equal f
  yes (Ne f) = apart f
  yes (Not a) = no a
  yes (And all) = yes_all all
  yes (Or all) = split (yes_each all)
  yes (Imp a b) = split (no a ∷ yes b ∷ [])

  pub no : Formula → List Fact
  no True = impossible ∷ []
  no False = []
  no (Le f) = Atom (plus_one (negated f)) ∷ []
  no (Eq f) = apart f
  no (Ne f) = equal f
  no (Not a) = yes a
  no (And all) = split (no_each all)
  no (Or all) = no_all all
  no (Imp a b) = yes a ++ no b

  pub yes_all : Formulas → List Fact
  yes_all none = []
  yes_all (more a rest) = yes a ++ yes_all rest

  pub no_all : Formulas → List Fact
  no_all none = []
  no_all (more a rest) = no a ++ no_all rest

  pub yes_each : Formulas → List (List Fact)
  yes_each none = []
  yes_each (more a rest) = yes a ∷ yes_each rest

  pub no_each : Formulas → List (List Fact)
  no_each none = []
  no_each (more a rest) = no a ∷ no_each rest

-- ---- of a condition

abbrev pub facts_of_part : Part → List Fact
facts_of_part (Yes a) = yes a
facts_of_part (No a) = no a

abbrev pub facts_of_parts : List Part → List Fact
facts_of_parts [] = []
facts_of_parts (p ∷ ps) = facts_of_part p ++ facts_of_parts ps

-- a variable with a value is the relation of the two
abbrev pub facts_of_hypothesis : Hypothesis → List Fact
facts_of_hypothesis (Is p) = facts_of_part p
facts_of_hypothesis (Starts x v) = equal (form_value ((x, pos 1) ∷ []) (neg_ℤ v))
facts_of_hypothesis (OneOf parts) = split (map facts_of_parts parts)

abbrev pub facts_of_hypotheses : List Hypothesis → List Fact
facts_of_hypotheses [] = []
facts_of_hypotheses (h ∷ hs) = facts_of_hypothesis h ++ facts_of_hypotheses hs

-- what the goal says before the action, if each number on the way fits. The action's map must fit whatever the goal is
abbrev pub goal_before : List Simple → Goal → Option Formula
goal_before action (Holds a) = after_action action a
goal_before action Fits = fits action
goal_before action Never = option_map (λ m. False) (forward action)

-- each number of the forms fits
abbrev mutual
  pub fact_fits : Fact → Bool
  fact_fits (Atom f) = fits_form f
  fact_fits (Split ps) = parts_fit ps

  pub parts_fit : Parts → Bool
  parts_fit no_part = true
  parts_fit (part p ps) = facts_fit p && parts_fit ps

  pub facts_fit : Facts → Bool
  facts_fit no_fact = true
  facts_fit (fact f fs) = fact_fits f && facts_fit fs

abbrev pub all_fit_in : List Fact → Bool
all_fit_in fs = facts_fit (facts_of_list fs)

abbrev pub checked_facts : List Fact → Option (List Fact)
checked_facts fs = if all_fit_in fs then Some fs else None

-- the facts of a condition, if every number on the way to them fits
abbrev pub exact_facts : Condition → Option (List Fact)
exact_facts c = option_and_then (λ a. checked_facts (facts_of_hypotheses c.hypotheses ++ no a)) (goal_before (assignments c.action) c.goal)

-- ---- the answer

abbrev pub most_facts : ℕ
most_facts = 10000

abbrev pub or_too_large : Option (List Fact) → Result (List Fact) FactsFault
or_too_large None = Err faults.TooLarge
or_too_large (Some fs) = Ok fs

-- the facts of a condition. Too many of them are refused first, whatever their numbers
abbrev pub facts_of : Condition → Result (List Fact) FactsFault
facts_of c = if nat_lt most_facts (count c) then Err faults.TooManyFacts else or_too_large (exact_facts c)
