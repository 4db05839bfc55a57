-- What is asked about the steps of statements.
use Rattle.std.specs.Prelude.{◌≡◌, ℕ, List, [], ◌∷◌, ◌++◌, flat_map, All, Bool, Option, Some, None, IfSome}
use Rattle.std.specs.List.{AllZip}
use Rattle.std.specs.BTreeMap.{BTreeMap}
use Rattle.og_text.specs.declared.place.Span.{Span}
use Rattle.og_typed.specs.Syntax.{Statement, Program}
use Rattle.og_typed.specs.Sites.{StatementSite, all_statements}
use Rattle.og_typed.specs.Seen.{IsOneOf}
use Rattle.og_cond.specs.Condition.{Condition}
use Rattle.og_review_text.specs.Points.{Point, points}
use Rattle.og_report_text.specs.Origins.{Rows}
use Rattle.og_report_prove.specs.Report.{is_proved}
use Rattle.og_report_prove.specs.declared.diagnosis.Diagnosis.{Diagnosis}
use Rattle.og_lsp_diagnostics.specs.Extents.{LiesIn, part_span, place_in}
use Rattle.og_lsp_document.specs.Parts.{found, asked_at, unproved_at}
use Rattle.og_lsp_document.specs.declared.judged.StatementCount.{StatementCount}
use Rattle.og_lsp_document.specs.declared.parts.Counts.{Counts}

-- ---- conditions

abbrev pub kept_at : Rows → Bool → Option ℕ → List (ℕ × Bool)
kept_at rows proved None = []
kept_at rows proved (Some at) = (place_in rows at, proved) ∷ []

-- of a condition that asks whether a step keeps an assertion of another process: the byte offset in the text of the step, and whether it is proved
abbrev pub kept_by : Rows → Condition → Bool → List (ℕ × Bool)
kept_by rows c proved = kept_at rows proved c.action_at

abbrev pub all_kept : Rows → List Condition → List Diagnosis → List (ℕ × Bool)
all_kept rows [] ts = []
all_kept rows (c ∷ cs) [] = []
all_kept rows (c ∷ cs) (t ∷ ts) = kept_by rows c (is_proved t) ++ all_kept rows cs ts

-- ---- statements

-- the note before a statement, and the statement
abbrev pub placed_at : ℕ → Option (Statement × ℕ) → List (ℕ × ℕ)
placed_at before None = []
placed_at before (Some next) = (before, next.1) ∷ []

abbrev pub placed : Point → List (ℕ × ℕ)
placed p = placed_at p.note.at p.next

-- the note behind the statement
pub record IsBehind (text : List ℕ) (rows : Rows) (o : Program) (at : ℕ) (span : Span) : Type 0 where
  pub site : StatementSite
  pub one : IsOneOf (all_statements o) site
  pub there : site.piece.at ≡ at
  pub behind : span ≡ part_span text (place_in rows site.after.at)

-- of the statement between which notes, with how many of these conditions ask about its step
pub record IsStatement (text : List ℕ) (rows : Rows) (o : Program) (all : List (ℕ × Bool)) (p : ℕ × ℕ) (s : StatementCount) : Type 0 where
  pub span : s.span ≡ part_span text (place_in rows p.1)
  pub before : s.before ≡ part_span text (place_in rows p.0)
  pub behind : IfSome s.behind (IsBehind text rows o p.1)
  pub conditions : s.conditions ≡ asked_at (place_in rows p.1) all
  pub unproved : s.unproved ≡ unproved_at (place_in rows p.1) all

-- one of each statement, in the order of the text
abbrev pub AreStatements : List ℕ → Rows → Program → List Condition → List Diagnosis → List StatementCount → Type 0
AreStatements text rows o cs ts = AllZip (IsStatement text rows o (all_kept rows cs ts)) (flat_map placed (points o))

-- they lie within the text
pub record IsStatementIn (text : List ℕ) (s : StatementCount) : Type 0 where
  pub span : LiesIn text s.span
  pub before : LiesIn text s.before
  pub behind : IfSome s.behind (LiesIn text)

abbrev pub AreStatementsIn : List ℕ → List StatementCount → Type 0
AreStatementsIn text = All (IsStatementIn text)

-- ---- the words of the contracts of private functions

abbrev pub conditions_in : Option Counts → ℕ
conditions_in None = 0
conditions_in (Some c) = c.conditions

abbrev pub unproved_in : Option Counts → ℕ
unproved_in None = 0
unproved_in (Some c) = c.unproved

-- with the counts that are found
pub record IsCounted (text : List ℕ) (rows : Rows) (o : Program) (asked : BTreeMap ℕ Counts) (p : ℕ × ℕ) (s : StatementCount) : Type 0 where
  pub span : s.span ≡ part_span text (place_in rows p.1)
  pub before : s.before ≡ part_span text (place_in rows p.0)
  pub behind : IfSome s.behind (IsBehind text rows o p.1)
  pub conditions : s.conditions ≡ conditions_in (found (place_in rows p.1) asked)
  pub unproved : s.unproved ≡ unproved_in (found (place_in rows p.1) asked)
  pub within : IsStatementIn text s

abbrev pub AddsStatements : List ℕ → Rows → Program → BTreeMap ℕ Counts → List (ℕ × ℕ) → List StatementCount → List StatementCount → Type 0
AddsStatements text rows o asked ps old new = (added : List StatementCount) × AllZip (IsCounted text rows o asked) ps added × (new ≡ old ++ added)

-- statements at the places that are left, behind these, are those at all of them
abbrev pub AreLeft : List ℕ → Rows → Program → BTreeMap ℕ Counts → List (ℕ × ℕ) → List (ℕ × ℕ) → List StatementCount → Type 0
AreLeft text rows o asked left all ss = (more : List StatementCount) → AllZip (IsCounted text rows o asked) left more → AllZip (IsCounted text rows o asked) all (ss ++ more)
