-- A condition, and when it is true.
use Rattle.std.specs.Prelude.{ℕ, ℤ, List, [], Option, Some, None}
use Rattle.og_typed.specs.Syntax.{Formula, Simple}
pub use Rattle.og_subst.specs.Trees.{ActionTree, One, Whole}
use Rattle.og_subst.specs.Trees.{tree_body}
use Rattle.og_cond.specs.declared.kind.Kind.{Kind}

-- an assertion is true, or it is false
pub data Part : Type 0 where
  Yes : Formula → Part
  No : Formula → Part

pub data Hypothesis : Type 0 where
  Is : Part → Hypothesis
  -- a variable has this value
  Starts : ℕ → ℤ → Hypothesis
  -- every part of one of these lists
  OneOf : List (List Part) → Hypothesis

pub data Goal : Type 0 where
  -- after the action, if there is one
  Holds : Formula → Goal
  -- each value of the action, in order, is an i64
  Fits : Goal
  Never : Goal

pub record Condition : Type 0 where
  pub kind : Kind
  pub at : ℕ
  -- the place of the action, of interference alone
  pub action_at : Option ℕ
  -- how many variables the outline has
  pub variables : ℕ
  pub hypotheses : List Hypothesis
  -- an assignment or a whole await, if it is about one
  pub action : Option ActionTree
  pub goal : Goal

-- what the action assigns, nothing where there is none
abbrev pub assignments : Option ActionTree → List Simple
assignments None = []
assignments (Some tree) = tree_body tree
