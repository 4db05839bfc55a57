-- The steps of an outline, and how each uses variables that other processes use.
use Rattle.std.specs.Prelude.{ℕ, List, [], ◌∷◌, ◌++◌, filter, Bool, false, not, ◌==◌, ◌&&◌, ◌||◌}
use Rattle.std.specs.List.{list_any, range_with_len}
use Rattle.og_linear.specs.Linear.{is_term}
use Rattle.og_typed.specs.Syntax.{Simple, Pass, Set, Statement, Skip, Assign, If, While, Await, Otherwise, Nothing, Else, Sequence, Last, Then, Program}
use Rattle.og_typed.specs.Occurs.{occurs}
use Rattle.og_typed.specs.Sites.{of_program}
use Rattle.og_typed.specs.declared.sites.Part.{Part}
use Rattle.og_typed.specs.declared.sites.Part.TheVariants as parts
use Rattle.og_review_text.specs.declared.steps.Access.{Access}
use Rattle.og_review_text.specs.declared.steps.Access.TheVariants as access

-- a statement of a part of a program with its place, for the step that it begins with: the assignment, the test, or the whole await
pub record Step : Type 0 where
  pub part : Part
  pub stmt : Statement
  pub at : ℕ

-- ---- all of them

-- those of a part, in text order
module _ (part : Part) where
  abbrev mutual
    pub sequence_steps : Sequence → List Step
    sequence_steps (Last note) = []
    sequence_steps (Then before stmt at rest) = item_steps stmt at ++ sequence_steps rest

    pub item_steps : Statement → ℕ → List Step
    item_steps Skip at = record { part = part; stmt = Skip; at = at } ∷ []
    item_steps (Assign x e) at = record { part = part; stmt = Assign x e; at = at } ∷ []
    item_steps (If b branch other) at = record { part = part; stmt = If b branch other; at = at } ∷ (sequence_steps branch ++ else_steps other)
    item_steps (While b body) at = record { part = part; stmt = While b body; at = at } ∷ sequence_steps body
    item_steps (Await b body) at = record { part = part; stmt = Await b body; at = at } ∷ []

    pub else_steps : Otherwise → List Step
    else_steps Nothing = []
    else_steps (Else branch) = sequence_steps branch

abbrev pub all_steps : Program → List Step
all_steps = of_program sequence_steps

-- ---- their variables

-- an assignment of an await reads the variable x, and assigns it
abbrev pub is_read_by : ℕ → Simple → Bool
is_read_by x Pass = false
is_read_by x (Set y e) = is_term x e.terms

abbrev pub is_set_by : ℕ → Simple → Bool
is_set_by x Pass = false
is_set_by x (Set y e) = y == x

-- the step reads the variable x: in its test, its guard or a right side
abbrev pub reads : ℕ → Statement → Bool
reads x Skip = false
reads x (Assign y e) = is_term x e.terms
reads x (If b branch other) = occurs x b
reads x (While b body) = occurs x b
reads x (Await b body) = occurs x b || list_any (is_read_by x) body

-- it assigns the variable x
abbrev pub assigns : ℕ → Statement → Bool
assigns x Skip = false
assigns x (Assign y e) = y == x
assigns x (If b branch other) = false
assigns x (While b body) = false
assigns x (Await b body) = list_any (is_set_by x) body

-- two parts that run side by side: different processes
abbrev pub is_beside : Part → Part → Bool
is_beside (parts.Process p) (parts.Process q) = not (p == q)
is_beside (parts.Process p) parts.Prologue = false
is_beside (parts.Process p) parts.Epilogue = false
is_beside parts.Prologue other = false
is_beside parts.Epilogue other = false

-- the step is of another process and assigns the variable x, or reads or assigns it
abbrev pub is_set_beside : Part → ℕ → Step → Bool
is_set_beside part x step = is_beside part step.part && assigns x step.stmt

abbrev pub is_used_beside : Part → ℕ → Step → Bool
is_used_beside part x step = is_beside part step.part && (reads x step.stmt || assigns x step.stmt)

module _ (all : List Step) where
  -- the step reads the variable x, which some step of another process assigns
  abbrev pub reads_shared : Step → ℕ → Bool
  reads_shared step x = reads x step.stmt && list_any (is_set_beside step.part x) all

  -- it assigns the variable x, which some step of another process reads or assigns
  abbrev pub writes_shared : Step → ℕ → Bool
  writes_shared step x = assigns x step.stmt && list_any (is_used_beside step.part x) all

  abbrev pub is_accessed : Step → Access → ℕ → Bool
  is_accessed step access.ReadsAndWrites x = reads_shared step x && writes_shared step x
  is_accessed step access.Reads x = reads_shared step x && not (writes_shared step x)
  is_accessed step access.Writes x = not (reads_shared step x) && writes_shared step x

  -- the variables below n that it uses in this way
  abbrev pub accessed : ℕ → Step → Access → List ℕ
  accessed n step way = filter (is_accessed step way) (range_with_len 0 n)
