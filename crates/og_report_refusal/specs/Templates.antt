-- Why nothing is printed of a template, in words.
use Rattle.std.specs.Prelude.{◌≡◌, ℕ, ◌⊎◌, ◌^◌, nat_lt, if◌then◌else◌, Bool, true, false, List, [], ◌∷◌, length, Option, None, Some, codes}
use Rattle.og_text.specs.declared.place.Span.{Span}
use Rattle.og_template.specs.Words.{AreWordsOf}
use Rattle.og_template.specs.declared.fault.FaultKind.{FaultKind}
use Rattle.og_template.specs.declared.fault.FaultKind.TheVariants as kinds
use Rattle.og_template.specs.declared.word.Word.{Word}
use Rattle.og_template_outline.specs.declared.fault.ExpandFault.{ExpandFault}
use Rattle.og_template_outline.specs.declared.fault.ExpandFault.TheVariants as faults
use Rattle.og_typed.specs.declared.source_fault.SourceFault.TheVariants as sources
use Rattle.og_report_text.specs.declared.fault.InputFault.TheVariants as inputs
use Rattle.og_report_refusal.specs.Reasons.{wrong_text, found_at, found_line, rule_text, IsReason}

-- where the first word stands that does not end before a place or at it
abbrev pub span_behind : ℕ → List Word → Option Span
span_behind at [] = None
span_behind at (word ∷ words) = if nat_lt at word.span.end then Some word.span else span_behind at words

-- the word found at a place, with words for what may stand there
abbrev pub IsFoundLine : List ℕ → List Word → ℕ → List ℕ → Type 0
IsFoundLine source words at text = (may : List (List ℕ)) × (text ≡ found_line (found_at source (span_behind at words)) may)

-- that of the words of a text; or it has none
abbrev pub IsTemplateExpected : List ℕ → ℕ → List ℕ → Type 0
IsTemplateExpected source at text =
    ((words : List Word) × AreWordsOf source words × IsFoundLine source words at text)
    ⊎ (((words : List Word) → AreWordsOf source words → ⊥) × (text ≡ codes "no template goes on with this word"))

-- the name at a place, and something of it
abbrev pub IsOfName : List ℕ → ℕ → List ℕ → Type 0
IsOfName source at text = (what : List ℕ) × (text ≡ wrong_text source at what)

-- of a fault of a template at a place
abbrev pub IsKindReason : List ℕ → FaultKind → ℕ → List ℕ → Type 0
IsKindReason source kinds.NameTooLong at text = text ≡ codes "the name of an element has at most 64 bytes"
IsKindReason source kinds.Expected at text = IsTemplateExpected source at text
IsKindReason source kinds.TooDeep at text = text ≡ codes "the 101st level opens here"
IsKindReason source kinds.TooManyStatements at text = text ≡ codes "the 4097th statement begins here"
IsKindReason source kinds.Undeclared at text = text ≡ wrong_text source at (codes "' is not declared before it is used here")
IsKindReason source kinds.DeclaredTwice at text = IsOfName source at text
IsKindReason source kinds.ReservedName at text = text ≡ wrong_text source at (codes "' ends in '_' and digits, as names of elements do")
IsKindReason source kinds.WrongKind at text = IsOfName source at text
IsKindReason source kinds.WrongCount at text = IsOfName source at text
IsKindReason source kinds.OutOfRange at text = Unit {0}
IsKindReason source kinds.ValueTooLarge at text = text ≡ codes "the value here is no 64-bit number with a sign"
IsKindReason source kinds.BadModulus at text = text ≡ codes "the number behind 'mod' is below 1"
IsKindReason source kinds.BadRange at text = text ≡ codes "a range begins at 0 or above, and has at most 256 values"
IsKindReason source kinds.TooManySteps at text = text ≡ codes "the expansion takes more than 2097152 steps"
IsKindReason source kinds.NothingLeft at text = text ≡ codes "under these values nothing is left here"

-- of a fault of a template that is not too long
abbrev pub IsShortReason : List ℕ → ExpandFault → List ℕ → Type 0
IsShortReason source (faults.Words fault) text = IsReason source (inputs.Source (sources.Lex fault)) text
IsShortReason source (faults.Template fault) text = IsKindReason source fault.kind fault.at text
IsShortReason source (faults.Outline fault) text = text ≡ rule_text source fault
IsShortReason source faults.ExpansionTooLong text = text ≡ codes "the outline would have more than 1048576 bytes"
IsShortReason source faults.NotReadBack text = text ≡ codes "the outline was not read back as it is meant"

-- by whether the template is too long
abbrev pub IsReasonBy : Bool → List ℕ → ExpandFault → List ℕ → Type 0
IsReasonBy true source fault text = text ≡ codes "a template has at most 1048576 bytes"
IsReasonBy false source fault text = IsShortReason source fault text

-- the reason of a fault, which is the text
abbrev pub IsTemplateReason : List ℕ → ExpandFault → List ℕ → Type 0
IsTemplateReason source fault text = IsReasonBy (nat_lt (2 ^ 20) (length source)) source fault text
