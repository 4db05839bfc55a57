-- The message about a refusal on standard error.
use Rattle.std.specs.Prelude.{◌≡◌, ℕ, Bool, not, ◌==◌, List, [], Option, None, Some, IfSome, IsTrue, codes}
use Rattle.std.specs.List.{list_all}
use Rattle.std.specs.Fmt.{decimal}
use Rattle.og_typed.specs.Refused.{IsSourceFault}
use Rattle.og_typed.specs.SourceFaults.{number_of_source, name_of_source, place_of_source}
use Rattle.og_cert_text.specs.Faults.{text_fault_number, text_fault_name, text_fault_line}
use Rattle.og_report_text.specs.declared.fault.InputFault.{InputFault}
use Rattle.og_report_text.specs.declared.fault.InputFault.TheVariants as faults
use Rattle.og_report_text.specs.Faults.{place_of_input}
use Rattle.og_report_text.specs.Line.{opening_text}
use Rattle.og_report_text.specs.Places.{◌&◌, position_of, position_text}
use Rattle.og_report_refusal.specs.Names.{shown_name}
use Rattle.og_report_refusal.specs.Quotes.{quote_text}
use Rattle.og_report_refusal.specs.Reasons.{IsReason}

-- the facts known of a fault before it is reported: that of a source is its first
abbrev pub IsKnown : List ℕ → InputFault → Type 0
IsKnown source (faults.Source fault) = IsSourceFault source fault
IsKnown source (faults.Conditions fault) = Unit {0}
IsKnown source (faults.Certs fault) = Unit {0}
IsKnown source (faults.Stray n) = Unit {0}

-- :LINE:COLUMN, where there is a place
abbrev pub place_text : List ℕ → Option ℕ → List ℕ
place_text source None = []
place_text source (Some at) = codes ":" & position_text (position_of source at)

-- :LINE, where there is one
abbrev pub line_text : Option ℕ → List ℕ
line_text None = []
line_text (Some line) = codes ":" & decimal line

-- : refused: NUMBER NAME
abbrev pub refusal_text : ℕ → List ℕ → List ℕ
refusal_text number name = codes ": " & opening_text number name & codes "\n"

-- FILE:LINE:COLUMN: refused: NUMBER NAME
abbrev pub head_text : List ℕ → List ℕ → List ℕ → InputFault → List ℕ
head_text name certs source (faults.Source f) = shown_name name & place_text source (place_of_source f) & refusal_text (number_of_source f) (name_of_source f)
head_text name certs source (faults.Conditions f) = shown_name name & [] & refusal_text 18 (codes "TooManyConditions")
head_text name certs source (faults.Certs f) = shown_name certs & line_text (text_fault_line f) & refusal_text (text_fault_number f) (text_fault_name f)
head_text name certs source (faults.Stray n) = shown_name certs & [] & refusal_text 25 (codes "Stray")

-- what stands before the reason: the line with a mark, where there is a place
abbrev pub front_text : List ℕ → Option ℕ → List ℕ
front_text source None = codes "  "
front_text source (Some at) = quote_text source at

-- no byte ends a line
abbrev pub is_one_line : List ℕ → Bool
is_one_line text = list_all (λ b. not (b == 10)) text

-- a line of advice, where there is one
abbrev pub hint_text : Option (List ℕ) → List ℕ
hint_text None = []
hint_text (Some hint) = codes "help: " & hint & codes "\n"

-- the head, the line with its mark and the reason, and at most one line of advice
pub record IsAdvice (name certs source : List ℕ) (fault : InputFault) (text : List ℕ) : Type 0 where
  pub reason : List ℕ
  pub is_reason : IsReason source fault reason
  pub hint : Option (List ℕ)
  pub one_line : IfSome hint (λ text. IsTrue (is_one_line text))
  pub written : text ≡ head_text name certs source fault & front_text source (place_of_input fault) & reason & codes "\n" & hint_text hint
