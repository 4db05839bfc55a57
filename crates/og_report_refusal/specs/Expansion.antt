-- The message about a template of which nothing is printed.
use Rattle.std.specs.Prelude.{◌≡◌, ◌⊎◌, ◌^◌, nat_lt, if◌then◌else◌, true, ℕ, List, length, map, Option, None, IfSome, IsTrue, codes}
use Rattle.og_report_text.specs.Places.{◌&◌}
use Rattle.og_report_refusal.specs.Advice.{is_one_line, hint_text, place_text, refusal_text, front_text}
use Rattle.og_report_refusal.specs.Names.{shown_name}
use Rattle.og_report_refusal.specs.Quotes.{shown_byte}
use Rattle.og_report_refusal.specs.Templates.{IsTemplateReason}
use Rattle.og_template_outline.specs.Faults.{number_of_fault, name_of_fault, place_of_fault}
use Rattle.og_template_outline.specs.declared.fault.ExpandFault.{ExpandFault}

-- a reason as it is shown; of a template that is too long its length
abbrev pub IsShownReason : List ℕ → ExpandFault → List ℕ → Type 0
IsShownReason source fault text =
    ((reason : List ℕ) × IsTemplateReason source fault reason × (text ≡ map shown_byte reason))
    ⊎ (text ≡ codes "a template has at most 1048576 bytes")

-- a reason as it is shown, in one line, and at most one line of advice
pub record IsTold (source : List ℕ) (fault : ExpandFault) (text : List ℕ) : Type 0 where
  pub reason : List ℕ
  pub is_reason : IsTemplateReason source fault reason
  pub one_line : is_one_line (map shown_byte reason) ≡ true
  pub hint : Option (List ℕ)
  pub one_hint : IfSome hint (λ text. IsTrue (is_one_line text))
  pub written : text ≡ map shown_byte reason & codes "\n" & hint_text hint

-- the file with the place, the refusal, the line with its mark, and why
pub record IsRemarkAt (name source : List ℕ) (fault : ExpandFault) (place : Option ℕ) (text : List ℕ) : Type 0 where
  pub told : List ℕ
  pub is_told : IsTold source fault told
  pub written : text ≡ shown_name name & place_text source place & refusal_text (number_of_fault fault) (name_of_fault fault) & front_text source place & told

-- the place of a fault; in a template that is too long it is not shown
abbrev pub shown_place : List ℕ → ExpandFault → Option ℕ
shown_place source fault = if nat_lt (2 ^ 20) (length source) then None else place_of_fault fault

-- that text for a fault of the template
abbrev pub IsExpansionRemark : List ℕ → List ℕ → ExpandFault → List ℕ → Type 0
IsExpansionRemark name source fault text = IsRemarkAt name source fault (shown_place source fault) text
