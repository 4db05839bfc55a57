-- Facts with their numbers.
use Rattle.std.specs.Prelude.{ℕ, zero, suc, List, Option, None, slice_get}
use Rattle.og_facts.specs.Facts.{Fact}

-- facts in order, over this many variables
pub record Listed : Type 0 where
  pub facts : List Fact
  pub variables : ℕ

abbrev pub listed : List Fact → ℕ → Listed
listed facts variables = record { facts = facts; variables = variables }

-- the fact with the number n, counted from 1
abbrev pub numbered : ℕ → List Fact → Option Fact
numbered zero fs = None
numbered (suc i) fs = slice_get fs i
