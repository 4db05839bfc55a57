-- The report of a false condition.
use Rattle.std.specs.Prelude.{ℕ, ℤ, ◌==◌, length, List, [], ◌∷◌, Bool, true, false, if◌then◌else◌, Option, Some, None, codes}
use Rattle.og_typed.specs.Syntax.{Formula, Noted}
use Rattle.og_typed.specs.Plain.{noted, formula}
use Rattle.og_typed.specs.declared.assertion.Assert.{Assert}
use Rattle.og_typed.specs.declared.statement.Note.{Note}
use Rattle.og_report_text.specs.Places.{◌&◌}
use Rattle.og_report_text.specs.Origins.{Rows, place_text_at, quoted_at}
use Rattle.og_typed.specs.Seen.{note_of, statement_of}
use Rattle.og_typed.specs.Sites as plain
use Rattle.og_typed.specs.declared.sites.Part.{Part}
use Rattle.og_typed.specs.declared.sites.StatementSite.{StatementSite}
use Rattle.og_report_text.specs.Assertions.{assertion_text}
use Rattle.og_report_text.specs.Conjuncts.{known_text}
use Rattle.og_report_text.specs.Uses.{use_text_at}
use Rattle.og_report_text.specs.Values.{values_text, value_text}
use Rattle.og_report_explain.specs.declared.explanation.Fault.{Fault}
use Rattle.og_report_explain.specs.declared.explanation.Fault.TheVariants as fault
use Rattle.og_report_explain.specs.declared.explanation.Stand.{Stand}
use Rattle.og_report_explain.specs.declared.explanation.Stand.TheVariants as stand
use Rattle.og_report_explain.specs.declared.explanation.Test.{Test}
use Rattle.og_report_prove.specs.declared.block.Block.{Block}
use Rattle.og_report_prove.specs.Sentences.{sentence_text, part_text}
use denote.Ref.{Bor}

-- a word
abbrev pub word_text : List ℕ → List ℕ
word_text word = codes "  " & word & codes ": "

-- a word and a place
abbrev pub place_text : List ℕ → Rows → List ℕ → ℕ → List ℕ
place_text source rows word at = codes "  " & word & codes " at " & place_text_at source rows at & codes ": "

-- with the source there
abbrev pub quoted_line : List ℕ → Rows → List ℕ → ℕ → List ℕ
quoted_line source rows word at = place_text source rows word at & quoted_at 72 source rows at & codes "\n"

-- whether a test is true
abbrev pub test_word : Bool → List ℕ
test_word true = codes "test true"
test_word false = codes "test false"

abbrev pub test_line : List ℕ → Rows → Option Test → List ℕ
test_line source rows None = []
test_line source rows (Some test) = quoted_line source rows (test_word test.holds) (statement_of test.site).piece.at

-- a process, a word and a place
abbrev pub standing_text : List ℕ → Rows → Part → List ℕ → ℕ → List ℕ
standing_text source rows part word at = codes "  " & part_text false part & word & place_text_at source rows at

-- where a process waits, and where it has ended
abbrev pub waits_line : List ℕ → Rows → plain.StatementSite → List ℕ
waits_line source rows site =
    codes "  " & part_text false site.part & codes " waits at " & place_text_at source rows site.piece.at
    & codes ": " & quoted_at 72 source rows site.piece.at & codes "\n"

abbrev pub ended_line : List ℕ → Rows → plain.NoteSite → List ℕ
ended_line source rows site =
    codes "  " & part_text false site.part & codes " has ended at " & place_text_at source rows site.note.at & codes "\n"

abbrev pub stand_line : List ℕ → Rows → Stand → List ℕ
stand_line source rows (stand.Waits site) = waits_line source rows (statement_of site)
stand_line source rows (stand.Ended site) = ended_line source rows (note_of site)

abbrev pub stand_lines : List ℕ → Rows → List Stand → List ℕ
stand_lines source rows [] = []
stand_lines source rows (st ∷ stands) = stand_line source rows st & stand_lines source rows stands

module _ (names : List (List ℕ)) where
  abbrev pub values_line : List ℕ → List ℤ → List ℕ → List ℕ
  values_line word s vars = word_text word & values_text names s vars & codes "\n"

  -- nothing where there are no variables
  abbrev pub more_line : List ℕ → List ℤ → List ℕ → List ℕ
  more_line word s vars = if length vars == 0 then [] else values_line word s vars

  -- what an assertion says of the variables of the focus
  abbrev pub known_line : List ℕ → Rows → List ℕ → Noted → List ℕ
  known_line source rows focus note =
      place_text source rows (codes "true") note.at & use_text_at source rows note.at
      & known_text names focus note.assertion & codes "\n"

  abbrev pub known_lines : List ℕ → Rows → List ℕ → List (Bor Note) → List ℕ
  known_lines source rows focus [] = []
  known_lines source rows focus (n ∷ notes) = known_line source rows focus (noted n.now) & known_lines source rows focus notes

  -- what the action assigns
  abbrev pub after_line : List ℤ → List ℕ → List ℕ
  after_line s vars = if length vars == 0 then codes "  after: no change\n" else values_line (codes "after") s vars

  abbrev pub action_lines : List ℕ → Rows → Option StatementSite → List ℤ → List ℕ → List ℕ
  action_lines source rows None after vars = []
  action_lines source rows (Some site) after vars =
      quoted_line source rows (codes "step") (statement_of site).piece.at & after_line after vars

  -- a false conjunct
  abbrev pub false_line : List ℕ → Rows → ℕ → Formula → List ℕ
  false_line source rows at a = place_text source rows (codes "false") at & assertion_text names a & codes "\n"

  abbrev pub false_lines : List ℕ → Rows → ℕ → List (Bor Assert) → List ℕ
  false_lines source rows at [] = []
  false_lines source rows at (a ∷ rest) = false_line source rows at (formula a.now) & false_lines source rows at rest

  abbrev pub too_large_line : ℕ → ℤ → List ℕ
  too_large_line x v = word_text (codes "too large") & value_text names x v & codes "\n"

  abbrev pub fault_lines : List ℕ → Rows → Fault → List ℕ
  fault_lines source rows (fault.False note found) = false_lines source rows (noted note.now).at found.items
  fault_lines source rows (fault.TooLarge x v) = too_large_line x v
  fault_lines source rows (fault.Blocked stands) = stand_lines source rows stands.items

  -- the sentence and the state
  abbrev pub head_lines : Block → List ℕ
  head_lines block =
      codes "  " & sentence_text block.details.value.kind block.details.value.actors & codes "\n"
      & values_line (codes "state") block.values block.details.value.state.items
      & more_line (codes "besides") block.values block.details.value.besides.items

  -- the assertions true there
  abbrev pub true_lines : List ℕ → Rows → Block → List ℕ
  true_lines source rows block =
      known_lines source rows block.details.value.focus.items block.details.value.explanation.known.items
      & more_line (codes "initially") block.values block.details.value.initial.items
      & test_line source rows block.details.value.explanation.test

  abbrev pub block_text : List ℕ → Rows → Block → List ℕ
  block_text source rows block =
      head_lines block
      & true_lines source rows block
      & action_lines source rows block.details.value.explanation.action block.details.value.explanation.after block.details.value.assigned.items
      & fault_lines source rows block.details.value.explanation.fault
