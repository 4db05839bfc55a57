-- How many conditions are asked at each part of a text.
use Rattle.std.specs.Prelude.{◌≡◌, ℕ, ◌+◌, ◌==◌, ◌<◌, List, [], ◌∷◌, map, count_by, Contains, All, Bool, true, false, not, ◌&&◌, Option, Some, None, if◌then◌else◌, ◌↔◌}
use Rattle.std.specs.List.Sorted.{IsStrictlySortedBy}
use Rattle.std.specs.Ordering.{nat_cmp}
use Rattle.std.specs.BTreeMap.{BTreeMap, get_by}
use Rattle.og_cond.specs.Condition.{Condition}
use Rattle.og_report_text.specs.Origins.{Rows}
use Rattle.og_report_prove.specs.Report.{is_proved}
use Rattle.og_report_prove.specs.declared.diagnosis.Diagnosis.{Diagnosis}
use Rattle.og_lsp_diagnostics.specs.Extents.{LiesIn, part_span, place_in}
use Rattle.og_lsp_document.specs.declared.judged.PartCount.{PartCount}
use Rattle.og_lsp_document.specs.declared.parts.Counts.{Counts}

-- of each condition: the byte offset in the text of the part asked about, and whether it is proved
abbrev pub asked : Rows → List Condition → List Diagnosis → List (ℕ × Bool)
asked rows [] ts = []
asked rows (c ∷ cs) [] = []
asked rows (c ∷ cs) (t ∷ ts) = (place_in rows c.at, is_proved t) ∷ asked rows cs ts

abbrev pub is_at : ℕ → ℕ × Bool → Bool
is_at at a = at == a.0

abbrev pub is_unproved_at : ℕ → ℕ × Bool → Bool
is_unproved_at at a = (at == a.0) && not a.1

-- how many are asked at a byte offset, and how many of them are not proved
abbrev pub asked_at : ℕ → List (ℕ × Bool) → ℕ
asked_at at = count_by (is_at at)

abbrev pub unproved_at : ℕ → List (ℕ × Bool) → ℕ
unproved_at at = count_by (is_unproved_at at)

-- the part there
abbrev pub part_at : List ℕ → List (ℕ × Bool) → ℕ → PartCount
part_at text all at = record {
  span = part_span text at;
  conditions = asked_at at all;
  unproved = unproved_at at all;
}

-- the parts at which conditions are asked, each once, in the order of the text
pub record AreParts (text : List ℕ) (all : List (ℕ × Bool)) (parts : List PartCount) : Type 0 where
  pub places : List ℕ
  pub order : IsStrictlySortedBy nat_cmp places
  pub those : (at : ℕ) → (Contains places at) ↔ (0 < asked_at at all)
  pub counted : parts ≡ map (part_at text all) places

-- all of them lie within the text
abbrev pub AreIn : List ℕ → List PartCount → Type 0
AreIn text = All (λ p. LiesIn text p.span)

-- ---- the words of the contracts of private functions

abbrev pub found : ℕ → BTreeMap ℕ Counts → Option Counts
found at m = get_by (nat_cmp at) m

abbrev pub one_of : Bool → Counts
one_of proved = record { conditions = 1; unproved = if proved then 0 else 1 }

abbrev pub with_one : Bool → Option Counts → Counts
with_one proved None = one_of proved
with_one proved (Some c) = record { conditions = c.conditions + 1; unproved = c.unproved + (if proved then 0 else 1) }

-- where it is asked there
abbrev pub counted : Bool → Bool → Option Counts → Option Counts
counted true proved old = Some (with_one proved old)
counted false proved old = old

-- with all of these
abbrev pub with_all : ℕ → Option Counts → List (ℕ × Bool) → Option Counts
with_all at old [] = old
with_all at old (a ∷ all) = with_all at (counted (at == a.0) a.1 old) all

abbrev pub part_of : List ℕ → ℕ × Counts → PartCount
part_of text e = record { span = part_span text e.0; conditions = e.1.conditions; unproved = e.1.unproved }
