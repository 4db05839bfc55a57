-- How many conditions an outline has, counted without making them.
use Rattle.std.specs.Prelude.{◌≡◌, ℕ, ◌+◌, ◌<◌, Bool, List, [], ◌∷◌, ◌++◌, length, if◌then◌else◌, Option, Some, None}
use Rattle.og_typed.specs.Syntax.{Noted, Statement, Skip, Assign, If, While, Await, Otherwise, Nothing, Else, Sequence, Last, Then, Program, last_of}
use Rattle.og_cond.specs.Sets.{watches, assigns_some}

-- the rest of the room after n conditions, if it holds them
abbrev pub Leaves : ℕ → ℕ → Option ℕ → Type 0
Leaves room n None = room < n
Leaves room n (Some left) = left + n ≡ room

-- ---- local conditions

abbrev mutual
  pub seq_count : Sequence → ℕ
  seq_count (Last note) = 0
  seq_count (Then before stmt at rest) = stmt_count stmt + seq_count rest

  pub stmt_count : Statement → ℕ
  stmt_count Skip = 1
  stmt_count (Assign x e) = 2
  stmt_count (If b branch other) = seq_count branch + (2 + else_count other)
  stmt_count (While b body) = seq_count body + 3
  stmt_count (Await b body) = 2

  pub else_count : Otherwise → ℕ
  else_count Nothing = 1
  else_count (Else branch) = seq_count branch + 2

abbrev pub local_count : List Sequence → ℕ
local_count [] = 0
local_count (process ∷ others) = seq_count process + local_count others

-- of the prologue or the epilogue, if there is one
abbrev pub part_count : Option Sequence → ℕ
part_count None = 0
part_count (Some part) = seq_count part + 1

-- ---- interference

-- how many actions assign a variable that passes the test
module _ (test : ℕ → Bool) where
  abbrev mutual
    pub seq_hits : Sequence → ℕ
    seq_hits (Last note) = 0
    seq_hits (Then before stmt at rest) = stmt_hits stmt + seq_hits rest

    pub stmt_hits : Statement → ℕ
    stmt_hits Skip = 0
    stmt_hits (Assign x e) = if test x then 1 else 0
    stmt_hits (If b branch other) = seq_hits branch + else_hits other
    stmt_hits (While b body) = seq_hits body
    stmt_hits (Await b body) = if assigns_some test body then 1 else 0

    pub else_hits : Otherwise → ℕ
    else_hits Nothing = 0
    else_hits (Else branch) = seq_hits branch

  abbrev pub all_hits : List Sequence → ℕ
  all_hits [] = 0
  all_hits (process ∷ others) = seq_hits process + all_hits others

-- how many actions of the others may break the assertion
abbrev pub note_count : List Sequence → Noted → ℕ
note_count others note = all_hits (watches note.assertion) others

-- the same of each assertion before a statement
module _ (others : List Sequence) where
  abbrev mutual
    pub seq_breaks : Sequence → ℕ
    seq_breaks (Last note) = 0
    seq_breaks (Then before stmt at rest) = note_count others before + (stmt_breaks stmt + seq_breaks rest)

    pub stmt_breaks : Statement → ℕ
    stmt_breaks Skip = 0
    stmt_breaks (Assign x e) = 0
    stmt_breaks (If b branch other) = seq_breaks branch + else_breaks other
    stmt_breaks (While b body) = seq_breaks body
    stmt_breaks (Await b body) = 0

    pub else_breaks : Otherwise → ℕ
    else_breaks Nothing = 0
    else_breaks (Else branch) = seq_breaks branch

  -- and of the last one of the process
  abbrev pub process_breaks : Sequence → ℕ
  process_breaks process = seq_breaks process + note_count others (last_of process)

-- of each process, by those before it and those after it
abbrev pub all_breaks : List Sequence → List Sequence → ℕ
all_breaks earlier [] = 0
all_breaks earlier (process ∷ later) = process_breaks (earlier ++ later) process + all_breaks (earlier ++ process ∷ []) later

-- ---- all of them

abbrev pub condition_count : Program → ℕ
condition_count o =
    part_count o.prologue
    + (length o.processes + (local_count o.processes + (all_breaks [] o.processes + (part_count o.epilogue + 2))))
