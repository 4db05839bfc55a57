-- An outline, and the texts in which it stands.
use Rattle.std.specs.Prelude.{ℕ, ◌≤◌, ◌^◌, List, length, None, Some}
use Rattle.std.specs.BTreeMap.{BTreeMap}
use Rattle.og_typed.specs.Syntax.{Program}
use Rattle.og_report_text.specs.Origins.{Rows}
use Rattle.og_report_text.specs.declared.row.Row.{Row}
use Rattle.og_report_text.specs.declared.subject.Subject.{Subject as Given}
use denote.Ref.{Bor}

-- own: the outline's own text; given: the text that was given, whose places are printed; rows: where
-- in that the outline's parts come from, where it is a template
pub record Subject : Type 0 where
  pub outline : Program
  pub own : List ℕ
  pub given : List ℕ
  pub rows : Rows

abbrev pub subject_of : Given → Subject
subject_of s = record { outline = s.outline.now; own = s.own.now; given = s.given.now; rows = s.rows }

-- an outline in its own text
abbrev pub in_own_text : Program → List ℕ → Subject
in_own_text o text = record { outline = o; own = text; given = text; rows = None }

-- an outline that a template means
abbrev pub of_template : Program → List ℕ → List ℕ → Bor (BTreeMap ℕ Row) → Subject
of_template o own template rows = record {
  outline = o;
  own = own;
  given = template;
  rows = Some rows;
}

-- the texts are as short as sources are
abbrev pub IsShort : Subject → Type 0
IsShort s = (length s.own ≤ 2 ^ 20) × (length s.given ≤ 2 ^ 20)
