-- What begins and ends within the assertions of a text: the conjuncts that all share, and those that are false.
use Rattle.std.specs.Prelude.{ℕ, ◌+◌, ◌-◌, nat_lt, nat_le, ◌==◌, List, [], ◌∷◌, ◌++◌, length, map, slice_get, Bool, false, ◌&&◌, if◌then◌else◌, Option, Some, None}
use Rattle.std.specs.List.{list_all, list_any}
use Rattle.og_text.specs.declared.place.Span.{Span}
use Rattle.og_typed.specs.Plain.{noted}
use Rattle.og_typed.specs.Syntax.{Formula}
use Rattle.og_report_text.specs.Conjuncts.{conjuncts}
use Rattle.og_report_text.specs.Origins.{Rows, row_at}
use Rattle.og_report_text.specs.declared.row.Row.{Row}
use Rattle.og_report_explain.specs.declared.explanation.Fault.{Fault}
use Rattle.og_report_explain.specs.declared.explanation.Fault.TheVariants as fault
use Rattle.og_report_prove.specs.declared.diagnosis.Diagnosis.{Diagnosis}
use Rattle.og_report_prove.specs.declared.diagnosis.Diagnosis.TheVariants as diagnosis
use Rattle.og_report_html.specs.Conjuncts.{Claim, claims_in}
use Rattle.og_report_html.specs.Shared.{common, shared_in}
use Rattle.og_report_html.specs.declared.constants.TheConstants.{SHARED_WORD}
use Rattle.og_report_html.specs.declared.edge.Boundary.{Boundary}
use Rattle.og_report_html.specs.declared.edge.Edge.{Edge}
use Rattle.og_report_html.specs.declared.edge.Edge.TheVariants as edge
use Rattle.og_report_html.specs.declared.marks.Mark.{Mark}
use Rattle.og_report_html.specs.declared.marks.Mark.TheVariants as mark

-- ---- which conjuncts are false

-- where a conjunct of a template's outline has its first relation, if it has one
abbrev pub joined_place : Option (Option ℕ) → Option ℕ
joined_place None = None
joined_place (Some place) = place

abbrev pub place_of : Row → ℕ → Option ℕ
place_of row k = joined_place (slice_get row.conjuncts.items k)

abbrev pub places_of : Row → List ℕ → List (Option ℕ)
places_of row ks = map (place_of row) ks

abbrev pub is_within : Span → Option ℕ → Bool
is_within s None = false
is_within s (Some place) = nat_le s.start place && nat_lt place s.end

abbrev pub number_if : Bool → ℕ → List ℕ
number_if is n = if is then n ∷ [] else []

-- the numbers, from n on, of those within which one of the places stands
abbrev pub numbers_within : List (Option ℕ) → ℕ → List Span → List ℕ
numbers_within places n [] = []
numbers_within places n (s ∷ ss) = number_if (list_any (is_within s) places) n ++ numbers_within places (n + 1) ss

-- of a template by their places; else by their numbers, where the text has as many conjuncts as the outline
abbrev pub numbers_by : Option Row → List Span → Formula → List ℕ → List ℕ
numbers_by None spans a ks = if length (conjuncts a) == length spans then ks else []
numbers_by (Some row) spans a ks = numbers_within (places_of row ks) 0 spans

abbrev pub numbers_of : Rows → List Span → Fault → List ℕ → List ℕ
numbers_of rows spans (fault.False note found) ks = numbers_by (row_at rows (noted note.now).at) spans (noted note.now).assertion ks
numbers_of rows spans (fault.TooLarge x v) ks = []
numbers_of rows spans (fault.Blocked stands) ks = []

module _ (rows : Rows) (spans : List Span) where
  abbrev pub false_in : Diagnosis → List ℕ
  false_in diagnosis.Proved = []
  false_in (diagnosis.False block) =
      numbers_of rows spans block.details.value.explanation.fault block.details.value.conjuncts.items
  false_in diagnosis.Open = []

  abbrev pub false_where : Option Diagnosis → List ℕ
  false_where None = []
  false_where (Some t) = false_in t

  -- those of the condition to which an assertion with a mark links
  abbrev pub false_by : List Diagnosis → Option Mark → List ℕ
  false_by ts None = []
  false_by ts (Some (mark.False n)) = false_where (slice_get ts (n - 1))
  false_by ts (Some (mark.Open n)) = []

-- ---- what begins and ends

abbrev pub around : Edge → Edge → Option Span → List Boundary
around opening closing None = []
around opening closing (Some s) = record { at = s.start; edge = opening } ∷ record { at = s.end; edge = closing } ∷ []

abbrev pub false_edges : List Span → List ℕ → List Boundary
false_edges spans [] = []
false_edges spans (k ∷ ks) = around edge.False edge.FalseEnd (slice_get spans k) ++ false_edges spans ks

-- from one on to another
abbrev pub spanned : Option Span → Option Span → Option Span
spanned None last = None
spanned (Some s) None = None
spanned (Some s) (Some last) = Some (record { start = s.start; end = last.end })

-- over the first n
abbrev pub first_span : List Span → ℕ → Option Span
first_span spans n = spanned (slice_get spans 0) (slice_get spans (n - 1))

-- longer than the word that stands for it
abbrev pub is_long : Option Span → Bool
is_long None = false
is_long (Some s) = nat_lt (length SHARED_WORD.now) (s.end - s.start)

-- it begins with what all share, if there is something, and nothing of that is false
abbrev pub is_folded : List ℕ → List Span → Claim → List ℕ → Bool
is_folded source all c ks =
    nat_lt 0 (length all) && (common source all c.conjuncts == length all && (is_long (first_span c.conjuncts (length all)) && list_all (λ k. nat_le (length all) k) ks))

abbrev pub shared_edges : List ℕ → List Span → Claim → List ℕ → List Boundary
shared_edges source all c ks =
    if is_folded source all c ks then around edge.Shared edge.SharedEnd (first_span c.conjuncts (length all)) else []

abbrev pub claim_edges : List ℕ → List Span → Claim → List ℕ → List Boundary
claim_edges source all c ks = shared_edges source all c ks ++ false_edges c.conjuncts ks

module _ (source : List ℕ) (rows : Rows) (marks : ℕ → Option Mark) (ts : List Diagnosis) where
  abbrev pub edges_from : List Span → List Claim → List Boundary
  edges_from all [] = []
  edges_from all (c ∷ cs) = claim_edges source all c (false_by rows c.conjuncts ts (marks c.at)) ++ edges_from all cs

  abbrev pub edges_in : List Boundary
  edges_in = edges_from (shared_in source (claims_in source)) (claims_in source)
