-- The conditions of an outline, in order.
use Rattle.std.specs.Prelude.{ℕ, ◌+◌, ℤ, List, [], ◌∷◌, ◌++◌, map, flat_map, filter_map, length, if◌then◌else◌, Option, Some, None}
use Rattle.og_typed.specs.Syntax.{Formula, Noted, Simple, Statement, Skip, Assign, If, While, Await, Otherwise, Nothing, Else, Sequence, Last, Then, Program, last_of}
use Rattle.og_typed.specs.Pieces.{first_of, pieces}
use Rattle.og_typed.specs.Occurs.{touches}
use Rattle.og_subst.specs.Trees.{ActionTree, One, Whole, tree_body}
use Rattle.og_cond.specs.declared.kind.Kind.{Kind}
use Rattle.og_cond.specs.declared.kind.Kind.TheVariants as kind
use Rattle.og_cond.specs.Condition.{Condition, Part, Yes, No, Hypothesis, Is, Starts, OneOf, Holds, Fits, Never}

-- ---- the parts of the outline

-- an assignment outside awaits, or a whole await
pub record Action : Type 0 where
  pub at : ℕ
  -- the assertion before it, and the guard of an await
  pub hypotheses : List Hypothesis
  pub does : ActionTree

abbrev pub stmt_action : Formula → ℕ → Statement → Option Action
stmt_action before at (Assign x e) = Some record { at = at; hypotheses = Is (Yes before) ∷ []; does = One x e }
stmt_action before at (Await b body) = Some record { at = at; hypotheses = Is (Yes before) ∷ Is (Yes b) ∷ []; does = Whole body }
stmt_action before at _ = None

-- what it assigns, in order
abbrev pub assigned : Action → List Simple
assigned action = tree_body action.does

-- the actions of a process, in text order
abbrev pub actions : Sequence → List Action
actions process = filter_map (λ piece. stmt_action piece.before.assertion piece.at piece.stmt) (pieces process)

-- each assertion before a statement, and the last one
abbrev pub notes : Sequence → List Noted
notes process = map (λ piece. piece.before) (pieces process) ++ last_of process ∷ []

-- the auxiliaries, from variable x on, have their initial values
abbrev pub starts : ℕ → List ℤ → List Hypothesis
starts x [] = []
starts x (v ∷ values) = Starts x v ∷ starts (x + 1) values

-- the precondition is true, and the auxiliaries have their initial values
abbrev pub pre_hypotheses : Program → List Hypothesis
pre_hypotheses o = Is (Yes o.pre.assertion) ∷ starts o.vars o.aux_values

-- what the processes start from: the last assertion of the prologue, if there is one
abbrev pub start_hypotheses : Program → Option Sequence → List Hypothesis
start_hypotheses o None = pre_hypotheses o
start_hypotheses o (Some part) = Is (Yes (last_of part).assertion) ∷ []

-- what the processes end in: the first assertion of the epilogue, if there is one
abbrev pub end_note : Program → Option Sequence → Noted
end_note o None = o.post
end_note o (Some part) = first_of part

-- the last assertion of each process is true
abbrev pub last_hypotheses : List Sequence → List Hypothesis
last_hypotheses = map (λ process. Is (Yes (last_of process).assertion))

abbrev pub stmt_blocked : Formula → Statement → Option (List Part)
stmt_blocked before (Await b body) = Some (Yes before ∷ No b ∷ [])
stmt_blocked before _ = None

-- per await: the assertion before it is true and its guard false
abbrev pub blocked : Sequence → List (List Part)
blocked process = filter_map (λ piece. stmt_blocked piece.before.assertion piece.stmt) (pieces process)

-- each process is at its end or blocked, and some process is blocked
abbrev pub blocked_hypotheses : List Sequence → List Hypothesis
blocked_hypotheses processes =
    map (λ process. OneOf ((Yes (last_of process).assertion ∷ []) ∷ blocked process)) processes
    ++ OneOf (flat_map blocked processes) ∷ []

-- ---- the conditions of an outline with n variables

module _ (n : ℕ) where
  -- a condition without an action: the hypotheses give the assertion
  abbrev pub gives : Kind → ℕ → List Hypothesis → Formula → Condition
  gives kind at hypotheses a =
      record { kind = kind; at = at; action_at = None; variables = n; hypotheses = hypotheses; action = None; goal = Holds a }

  -- ---- local conditions

  -- an action leads to the assertion, and its values fit
  abbrev pub action_conditions : ℕ → List Hypothesis → ActionTree → Formula → List Condition
  action_conditions at hypotheses action after =
      record { kind = kind.Step; at = at; action_at = None; variables = n; hypotheses = hypotheses; action = Some action; goal = Holds after }
      ∷ record { kind = kind.Range; at = at; action_at = None; variables = n; hypotheses = hypotheses; action = Some action; goal = Fits }
      ∷ []

  abbrev mutual
    -- of a statement at its place, between the assertions before and after it
    pub stmt_conditions : Formula → ℕ → Statement → Formula → List Condition
    stmt_conditions before at Skip after = gives kind.Step at (Is (Yes before) ∷ []) after ∷ []
    stmt_conditions before at (Assign x e) after = action_conditions at (Is (Yes before) ∷ []) (One x e) after
    stmt_conditions before at (If b branch other) after =
        gives kind.Then at (Is (Yes before) ∷ Is (Yes b) ∷ []) (first_of branch).assertion
        ∷ (seq_conditions branch
        ++ gives kind.Join (last_of branch).at (Is (Yes (last_of branch).assertion) ∷ []) after
        ∷ else_conditions before at b other after)
    stmt_conditions before at (While b body) after =
        gives kind.Enter at (Is (Yes before) ∷ Is (Yes b) ∷ []) (first_of body).assertion
        ∷ (seq_conditions body
        ++ gives kind.Again (last_of body).at (Is (Yes (last_of body).assertion) ∷ []) before
        ∷ gives kind.Leave at (Is (Yes before) ∷ Is (No b) ∷ []) after
        ∷ [])
    stmt_conditions before at (Await b body) after =
        action_conditions at (Is (Yes before) ∷ Is (Yes b) ∷ []) (Whole body) after

    pub else_conditions : Formula → ℕ → Formula → Otherwise → Formula → List Condition
    else_conditions before at b Nothing after = gives kind.Else at (Is (Yes before) ∷ Is (No b) ∷ []) after ∷ []
    else_conditions before at b (Else branch) after =
        gives kind.Else at (Is (Yes before) ∷ Is (No b) ∷ []) (first_of branch).assertion
        ∷ (seq_conditions branch
        ++ gives kind.Join (last_of branch).at (Is (Yes (last_of branch).assertion) ∷ []) after
        ∷ [])

    pub seq_conditions : Sequence → List Condition
    seq_conditions (Last note) = []
    seq_conditions (Then before stmt at rest) =
        stmt_conditions before.assertion at stmt (first_of rest).assertion ++ seq_conditions rest

  -- ---- interference

  -- the action keeps the assertion
  abbrev pub interfere_condition : Action → Noted → Condition
  interfere_condition action note =
      record {
        kind = kind.Interfere;
        at = note.at;
        action_at = Some action.at;
        variables = n;
        hypotheses = Is (Yes note.assertion) ∷ action.hypotheses;
        action = Some action.does;
        goal = Holds note.assertion;
      }

  -- where a variable that the action assigns occurs in the assertion
  abbrev pub pair_condition : Action → Noted → List Condition
  pair_condition action note =
      if touches (assigned action) note.assertion then interfere_condition action note ∷ [] else []

  -- the actions of one process against the assertions of the others
  abbrev pub against : Sequence → List Sequence → List Condition
  against process others = flat_map (λ action. flat_map (pair_condition action) (flat_map notes others)) (actions process)

  -- of each process with those before it and those after it
  abbrev pub interference : List Sequence → List Sequence → List Condition
  interference earlier [] = []
  interference earlier (process ∷ later) = against process (earlier ++ later) ++ interference (earlier ++ process ∷ []) later

-- ---- all of them

-- the precondition gives the first assertion of the prologue, if there is one
abbrev pub prologue_conditions : Program → Option Sequence → List Condition
prologue_conditions o None = []
prologue_conditions o (Some part) =
    gives (length o.names) kind.Prologue (first_of part).at (pre_hypotheses o) (first_of part).assertion
    ∷ seq_conditions (length o.names) part

abbrev pub start_condition : Program → Sequence → Condition
start_condition o process =
    gives (length o.names) kind.Start (first_of process).at (start_hypotheses o o.prologue) (first_of process).assertion

abbrev pub end_condition : Program → Condition
end_condition o =
    gives (length o.names) kind.End (end_note o o.epilogue).at (last_hypotheses o.processes) (end_note o o.epilogue).assertion

-- the last assertion of the epilogue, if there is one, gives the postcondition
abbrev pub epilogue_conditions : Program → Option Sequence → List Condition
epilogue_conditions o None = []
epilogue_conditions o (Some part) =
    seq_conditions (length o.names) part
    ++ gives (length o.names) kind.Epilogue o.post.at (Is (Yes (last_of part).assertion) ∷ []) o.post.assertion ∷ []

-- the processes never all wait
abbrev pub blocking_condition : Program → Condition
blocking_condition o =
    record {
      kind = kind.Blocking;
      at = o.cobegin_at;
      action_at = None;
      variables = length o.names;
      hypotheses = blocked_hypotheses o.processes;
      action = None;
      goal = Never;
    }

-- every condition but the last
abbrev pub safety_conditions : Program → List Condition
safety_conditions o =
    prologue_conditions o o.prologue
    ++ (map (start_condition o) o.processes
    ++ (flat_map (seq_conditions (length o.names)) o.processes
    ++ (interference (length o.names) [] o.processes
    ++ end_condition o ∷ epilogue_conditions o o.epilogue)))

abbrev pub conditions : Program → List Condition
conditions o = safety_conditions o ++ blocking_condition o ∷ []
