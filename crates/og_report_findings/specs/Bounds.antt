-- The numbers that a program assigns to a variable, and what bounds one.
use Rattle.std.specs.Prelude.{ℕ, ℤ, ◌-◌, ◌==◌, nat_lt, int_lt, length, List, [], ◌∷◌, ◌++◌, filter, map, slice_get, Bool, not, ◌&&◌, Option, Some, None, if◌then◌else◌}
use Rattle.std.specs.List.{list_any}
use Rattle.og_linear.specs.Linear.{FormValue}
use Rattle.og_typed.specs.Syntax.{Formula, Noted, Simple, Pass, Set, Statement, Skip, Assign, If, While, Await, Program}
use Rattle.og_typed.specs.Occurs.{occurs}
use Rattle.og_report_text.specs.Conjuncts.{conjuncts, speaks_of}
use Rattle.og_report_text.specs.Values.{numbers}
use Rattle.og_review_text.specs.Steps.{Step, all_steps}

-- ---- what is assigned

-- between the smaller and the larger ones
abbrev pub with_number : ℤ → List ℤ → List ℤ
with_number z ns = (filter (λ n. int_lt n z) ns ++ z ∷ []) ++ filter (λ n. int_lt z n) ns

-- nothing where the right side is no number
abbrev pub with_constant : List (ℕ × ℤ) → ℤ → List ℤ → Option (List ℤ)
with_constant [] c ns = Some (with_number c ns)
with_constant (t ∷ ts) c ns = None

abbrev pub with_form : FormValue → Option (List ℤ) → Option (List ℤ)
with_form e None = None
with_form e (Some ns) = with_constant e.terms e.constant ns

module _ (x : ℕ) where
  -- with what is assigned to the variable x
  abbrev pub with_simple : Simple → Option (List ℤ) → Option (List ℤ)
  with_simple Pass ns = ns
  with_simple (Set y e) ns = if y == x then with_form e ns else ns

  abbrev pub with_body : List Simple → Option (List ℤ) → Option (List ℤ)
  with_body [] ns = ns
  with_body (s ∷ ss) ns = with_body ss (with_simple s ns)

  abbrev pub with_statement : Statement → Option (List ℤ) → Option (List ℤ)
  with_statement Skip ns = ns
  with_statement (Assign y e) ns = if y == x then with_form e ns else ns
  with_statement (If b branch other) ns = ns
  with_statement (While b body) ns = ns
  with_statement (Await b body) ns = with_body body ns

  abbrev pub with_steps : List Step → Option (List ℤ) → Option (List ℤ)
  with_steps [] ns = ns
  with_steps (s ∷ ss) ns = with_steps ss (with_statement s.stmt ns)

-- the first value of an auxiliary
abbrev pub first_numbers : Option ℤ → List ℤ
first_numbers None = []
first_numbers (Some z) = z ∷ []

abbrev pub first_of : Program → ℕ → List ℤ
first_of o x = if nat_lt x o.vars then [] else first_numbers (slice_get o.aux_values (x - o.vars))

-- the numbers that the variable x is assigned, rising; nothing where it is assigned anything else
abbrev pub numbers_of : Program → ℕ → Option (List ℤ)
numbers_of o x = with_steps x (all_steps o) (Some (first_of o x))

-- ---- what bounds it

-- the variables below n but x
abbrev pub others : ℕ → ℕ → List ℕ
others n x = filter (λ y. not (y == x)) (numbers n)

-- it speaks of x alone
abbrev pub is_about : List ℕ → ℕ → Formula → Bool
is_about rest x a = occurs x a && not (speaks_of rest a)

-- a conjunct of the assertion does
abbrev pub bounds : List ℕ → ℕ → Noted → Bool
bounds rest x note = list_any (is_about rest x) (conjuncts note.assertion)

-- one of the assertions has such a conjunct
abbrev pub is_bounded : List ℕ → ℕ → List Noted → Bool
is_bounded rest x = list_any (bounds rest x)

-- of each variable what it is assigned
abbrev pub assigned : Program → List (Option (List ℤ))
assigned o = map (numbers_of o) (numbers (length o.names))

-- what one of them is
abbrev pub joined_option : Option (Option (List ℤ)) → Option (List ℤ)
joined_option None = None
joined_option (Some ns) = ns

abbrev pub numbers_at : List (Option (List ℤ)) → ℕ → Option (List ℤ)
numbers_at all x = joined_option (slice_get all x)
