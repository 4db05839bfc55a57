-- The notes on an outline, as they are printed.
use Rattle.std.specs.Prelude.{ℕ, ◌+◌, ◌-◌, ◌==◌, nat_lt, Bool, true, false, List, [], length, take, flat_map, if◌then◌else◌, codes, Option, Some, None, slice_get}
use Rattle.std.specs.List.{range_with_len}
use Rattle.std.specs.Fmt.{decimal}
use Rattle.og_typed.specs.Syntax.{Noted, Program}
use Rattle.og_typed.specs.Erase.{erased}
use Rattle.og_erase.specs.Collected.{raw_of}
use Rattle.og_erase_readable.specs.Readable.{readable}
use Rattle.og_print.specs.Print.{program_text}
use Rattle.og_report_text.specs.Origins.{Rows, place_text_at}
use Rattle.og_report_text.specs.Places.{◌&◌}
use Rattle.og_report_text.specs.Assertions.{assertion_text}
use Rattle.og_report_text.specs.Values.{names_text}
use Rattle.og_review_text.specs.Points.{Point, points}
use Rattle.og_review_text.specs.Steps.{all_steps}
use Rattle.og_review_text.specs.Accesses.{step_lines}
use Rattle.og_command_notes.specs.Claims.{Claim}
use Rattle.og_command_notes.specs.Together.{are_many}
use Rattle.og_review_text.specs.Unused.{unused_lines}
use Rattle.og_review_text.specs.Hidden.{hidden_lines}
use Rattle.og_command_notes.specs.declared.claims.Asked.{Asked}
use Rattle.og_command_notes.specs.declared.claims.Asked.TheVariants as asked
use Rattle.og_command_notes.specs.declared.together.Block.{Block}
use Rattle.og_command_notes.specs.declared.together.Span.{Span}

-- ---- words

-- what is asked of which part, and what is so of it
abbrev pub subject_text : Asked → List ℕ
subject_text asked.Precondition = codes "precondition"
subject_text asked.Assertion = codes "assertion"
subject_text asked.Falsity = codes "assertion"
subject_text asked.LoopEntered = codes "loop"
subject_text asked.LoopLeft = codes "loop"
subject_text asked.BranchTaken = codes "branch"
subject_text asked.ElseTaken = codes "else branch"
subject_text asked.AwaitPassed = codes "await"
subject_text asked.AllEnded = codes "the processes"
subject_text asked.Postcondition = codes "postcondition"
subject_text asked.PostconditionFalse = codes "postcondition"

abbrev pub finding_text : Asked → List ℕ
finding_text asked.Precondition = codes " is never true"
finding_text asked.Assertion = codes " is never true: nothing is claimed behind it"
finding_text asked.Falsity = codes " is false: the step before it is never made"
finding_text asked.LoopEntered = codes " is never entered"
finding_text asked.LoopLeft = codes " is never left"
finding_text asked.BranchTaken = codes " is never taken"
finding_text asked.ElseTaken = codes " is never taken"
finding_text asked.AwaitPassed = codes " never passes"
finding_text asked.AllEnded = codes " never all end: nothing is claimed of the postcondition"
finding_text asked.Postcondition = codes " is never true: it is claimed that no run ends"
finding_text asked.PostconditionFalse = codes " is always true"

-- it is about the whole program, which has no place
abbrev pub is_of_all : Asked → Bool
is_of_all asked.Precondition = false
is_of_all asked.Assertion = false
is_of_all asked.Falsity = false
is_of_all asked.LoopEntered = false
is_of_all asked.LoopLeft = false
is_of_all asked.BranchTaken = false
is_of_all asked.ElseTaken = false
is_of_all asked.AwaitPassed = false
is_of_all asked.AllEnded = true
is_of_all asked.Postcondition = false
is_of_all asked.PostconditionFalse = false

-- of what a yes speaks, and what carries it
abbrev pub unblocked_line : List ℕ
unblocked_line = codes "unblocked is said of the whole program: until all processes have ended, one of them can step; a single one may wait for ever\n"

abbrev pub definitions_line : List ℕ
definitions_line = codes "a yes is carried by 948 lines of definitions, from the bytes of the source to its runs: docs/THEOREM.md\n"

module _ (source : List ℕ) (rows : Rows) where
  -- WORD at LINE:COLUMN, of a template with the values of an instance
  abbrev pub placed_text : List ℕ → ℕ → List ℕ
  placed_text word at = word & codes " at " & place_text_at source rows at

  -- an assertion with its place
  abbrev pub assertion_line : List (List ℕ) → List ℕ → Noted → List ℕ
  assertion_line names word note = placed_text word note.at & codes ": " & assertion_text names note.assertion & codes "\n"

  -- ---- what is so in no state

  abbrev pub subject_at : Asked → ℕ → List ℕ
  subject_at what at = if is_of_all what then subject_text what else placed_text (subject_text what) at

  abbrev pub claim_line : Claim → List ℕ
  claim_line c = if c.refuted then subject_at c.question.asked c.question.at & finding_text c.question.asked & codes "\n" else []

  -- ---- places that no state has together

  abbrev pub point_text : Option Point → List ℕ
  point_text None = []
  point_text (Some p) = place_text_at source rows p.note.at

  module _ (points : List Point) where
    -- FIRST..LAST, or the one place
    abbrev pub span_text : Span → List ℕ
    span_text s =
        point_text (slice_get points s.from) & (if s.from == s.to then [] else codes ".." & point_text (slice_get points s.to))

    -- a process, counted from 1, with places
    abbrev pub side_text : ℕ → Span → List ℕ
    side_text process s = codes "process " & decimal (process + 1) & codes " at " & span_text s

    abbrev pub block_line : Block → List ℕ
    block_line b = codes " " & side_text b.one b.rows & codes " with " & side_text b.other b.columns & codes "\n"

-- how many blocks there are beyond 40
abbrev pub more_text : ℕ → List ℕ
more_text count = if nat_lt 40 count then codes " and " & decimal (count - 40) & codes " more\n" else []

module _ (source : List ℕ) (rows : Rows) (points : List Point) where
  -- a line for each of the first 40
  abbrev pub table_text : List Block → List ℕ
  table_text blocks =
      if length blocks == 0
      then codes "never together: none found\n"
      else codes "never together:\n" & flat_map (block_line source rows points) (take 40 blocks) & more_text (length blocks)

  -- where there are two processes or more; it is told where they have more pairs of places than are compared
  abbrev pub together_text : ℕ → List Block → Bool → List ℕ
  together_text processes blocks many =
      if nat_lt processes 2
      then []
      else table_text blocks & (if many then codes " only the first 20000 pairs of places were compared\n" else [])

-- ---- all

-- the precondition, the postcondition, and what is so in no state
abbrev pub claims_text : Program → List ℕ → Rows → List Claim → List ℕ
claims_text o source rows claims =
    assertion_line source rows o.names (codes "precondition") o.pre
    & assertion_line source rows o.names (codes "postcondition") o.post
    & flat_map (claim_line source rows) claims

-- the lines that are about the outline
abbrev pub findings_text : Program → List ℕ → Rows → List Claim → List Block → List ℕ
findings_text o source rows claims blocks =
    claims_text o source rows claims
    & unused_lines o
    & together_text source rows (points o) (length o.processes) blocks (are_many (points o))
    & step_lines source rows o.names o.vars (all_steps o)

-- the auxiliaries by number
abbrev pub auxiliaries : Program → List ℕ
auxiliaries o = range_with_len o.vars (length o.names - o.vars)

-- these auxiliaries, and what the text behind them is
abbrev pub auxiliaries_text : Program → List ℕ → List ℕ
auxiliaries_text o vars =
    if length vars == 0
    then codes "auxiliary variables: none\nthe program:\n"
    else codes "auxiliary variables: " & names_text o.names [] vars & codes "\nthe program without them:\n"

-- the program that is left without auxiliaries, with terms on both sides of its relations
abbrev pub program_of : Program → List ℕ
program_of o = program_text (readable (raw_of (erased o)))

-- the notes on an outline of which this is found
abbrev pub notes_text : Program → List ℕ → Rows → List Claim → List Block → List ℕ
notes_text o source rows claims blocks =
    findings_text o source rows claims blocks
    & hidden_lines source
    & (unblocked_line & definitions_line)
    & (auxiliaries_text o (auxiliaries o) & program_of o)
