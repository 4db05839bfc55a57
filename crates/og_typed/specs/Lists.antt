-- Assertions and sequences from lists.
use Rattle.std.specs.Prelude.{ℕ, List, [], ◌∷◌}
use Rattle.og_typed.specs.Syntax.{Formula, Formulas, none, more, Noted, Statement, Sequence, Last, Then}

abbrev pub formula_list : List Formula → Formulas
formula_list [] = none
formula_list (a ∷ rest) = more a (formula_list rest)

-- items, each with its place, and the last assertion
abbrev pub sequence_list : List (Noted × Statement × ℕ) → Noted → Sequence
sequence_list [] last = Last last
sequence_list (item ∷ rest) last = Then item.0 item.1 item.2 (sequence_list rest last)
