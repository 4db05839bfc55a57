-- An outline that completes another one: its program, perhaps with more auxiliary variables, and with
-- stronger assertions.
use Rattle.std.specs.Prelude.{◌≡◌, ◌≤◌, ℕ, ℤ, List, [], ◌∷◌, ◌++◌, length, All, Option, Some, None, true, ⊤}
use Rattle.og_linear.specs.Linear.{form_value, fits_i64}
use Rattle.og_typed.specs.Syntax.{Formula, True, Simple, Pass, Set, Statement, Skip, Assign, If, While, Await, Otherwise, Nothing, Else, Sequence, Last, Then, Program}
use Rattle.og_typed.specs.Truth.{truth}

-- in each state in which the first is true, the second is true
abbrev pub Implies : Formula → Formula → Type 0
Implies stronger weaker = (s : List ℤ) → truth stronger s ≡ true → truth weaker s ≡ true

-- ---- one by one

-- as many, and R holds of the two at each place
abbrev pub OneByOne : {X : Type 0} → (X → X → Type 0) → List X → List X → Type 0
OneByOne R [] [] = ⊤
OneByOne R (x ∷ xs) (y ∷ ys) = R x y × OneByOne R xs ys
OneByOne R _ _ = ⊥

-- both are absent, or R holds of the two
abbrev pub InBoth : {X : Type 0} → (X → X → Type 0) → Option X → Option X → Type 0
InBoth R None None = ⊤
InBoth R (Some x) (Some y) = R x y
InBoth R _ _ = ⊥

-- ---- an action; n is how many variables the old program has, and the new ones come after them

-- an assignment of a number to a new variable
abbrev pub IsMark : ℕ → Simple → Type 0
IsMark n Pass = ⊥
IsMark n (Set x e) = (n ≤ x) × ((v : ℤ) × (e ≡ form_value [] v) × (fits_i64 v ≡ true))

-- the old action, and then such assignments
abbrev pub BodyCompletes : ℕ → List Simple → List Simple → Type 0
BodyCompletes n new old =
    (marks : List Simple) × (new ≡ old ++ marks) × All (IsMark n) marks

-- ---- the same statements with such actions, each assertion of the first implying that of the second; an
-- assignment may stand in an await whose guard is true; places in a source may differ

abbrev mutual
  pub SequenceCompletes : ℕ → Sequence → Sequence → Type 0
  SequenceCompletes n (Last new) (Last old) = Implies new.assertion old.assertion
  SequenceCompletes n (Then new stmt at rest) (Then old old_stmt old_at old_rest) =
      Implies new.assertion old.assertion × StatementCompletes n stmt old_stmt × SequenceCompletes n rest old_rest
  SequenceCompletes n _ _ = ⊥

  pub StatementCompletes : ℕ → Statement → Statement → Type 0
  StatementCompletes n Skip Skip = ⊤
  StatementCompletes n (Assign x e) (Assign y f) = (x ≡ y) × (e ≡ f)
  StatementCompletes n (Await b body) (Assign y f) = (b ≡ True) × BodyCompletes n body (Set y f ∷ [])
  StatementCompletes n (If b branch other) (If c old_branch old_other) =
      (b ≡ c) × SequenceCompletes n branch old_branch × OtherwiseCompletes n other old_other
  StatementCompletes n (While b body) (While c old_body) = (b ≡ c) × SequenceCompletes n body old_body
  StatementCompletes n (Await b body) (Await c old_body) = (b ≡ c) × BodyCompletes n body old_body
  StatementCompletes n _ _ = ⊥

  pub OtherwiseCompletes : ℕ → Otherwise → Otherwise → Type 0
  OtherwiseCompletes n Nothing Nothing = ⊤
  OtherwiseCompletes n (Else branch) (Else old_branch) = SequenceCompletes n branch old_branch
  OtherwiseCompletes n _ _ = ⊥

-- the same variables and perhaps more auxiliaries, the same pre- and postcondition, and each part completed
pub record Completes (new old : Program) : Type 0 where
  pub more_names : List (List ℕ)
  pub names : new.names ≡ old.names ++ more_names
  pub vars : new.vars ≡ old.vars
  pub more_values : List ℤ
  pub aux_values : new.aux_values ≡ old.aux_values ++ more_values
  pub pre : new.pre.assertion ≡ old.pre.assertion
  pub prologue : InBoth (SequenceCompletes (length old.names)) new.prologue old.prologue
  pub processes : OneByOne (SequenceCompletes (length old.names)) new.processes old.processes
  pub epilogue : InBoth (SequenceCompletes (length old.names)) new.epilogue old.epilogue
  pub post : new.post.assertion ≡ old.post.assertion
