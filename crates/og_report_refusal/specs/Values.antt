-- Why a word gives no variable a value or a range.
use Rattle.std.specs.Prelude.{◌≡◌, ◌⊎◌, ◌<◌, ◌≤◌, ℕ, ℤ, List, length, Option, Some, None, codes}
use Rattle.std.specs.List.{position_or_len, before_first, after_first}
use Rattle.og_typed.specs.Syntax.{Program}
use Rattle.og_typed.specs.Resolved.{number_in}
use Rattle.og_report_text.specs.Places.{◌&◌}
use Rattle.og_report_refusal.specs.Names.{shown_name}
use Rattle.og_command_run.specs.Words.{is_equals, IsInteger}
use Rattle.og_report_refusal.specs.declared.values.Gives.{Gives}
use Rattle.og_report_refusal.specs.declared.values.Gives.TheVariants as gives

-- a name in quotes, and the claim about it
abbrev pub quoted_text : List ℕ → List ℕ → List ℕ
quoted_text name rest = codes "'" & shown_name name & codes "'" & rest

-- the form of the words
abbrev pub form_text : Gives → List ℕ
form_text gives.Values = codes "a word that gives a value is NAME=INT"
form_text gives.Ranges = codes "a word that gives values is NAME=INT or NAME=LO..HI"

-- of a text for a variable of this name: it is no value; or it is one, and the variable has one already
abbrev pub IsNumberReason : Gives → List ℕ → List ℕ → List ℕ → Type 0
IsNumberReason gives.Values name number text =
    (((z : ℤ) → IsInteger number z → ⊥) × (text ≡ codes "a value is a whole number from -9223372036854775808 to 9223372036854775807"))
    ⊎ (((z : ℤ) × IsInteger number z) × (text ≡ quoted_text name (codes " has a value already")))
IsNumberReason gives.Ranges name number text =
    text ≡ codes "values are whole numbers from -9223372036854775808 to 9223372036854775807, LO is at most HI, and a variable is named once"

-- of a name and a text, by the number of the variable
abbrev pub IsVariableReason : Gives → Program → List ℕ → List ℕ → List ℕ → Option ℕ → Type 0
IsVariableReason what o name number text None = text ≡ quoted_text name (codes " is not declared")
IsVariableReason what o name number text (Some x) =
    ((o.vars ≤ x) × (text ≡ quoted_text name (codes " is an auxiliary: the outline gives it its value at the start")))
    ⊎ ((x < o.vars) × IsNumberReason what name number text)

-- of a word: without `=`, or by what stands before the first one and after it
abbrev pub IsWordReason : Gives → Program → List ℕ → List ℕ → Type 0
IsWordReason what o word text =
    ((length word ≤ position_or_len is_equals word) × (text ≡ form_text what))
    ⊎ ((position_or_len is_equals word < length word)
    × IsVariableReason what o (before_first is_equals word) (after_first is_equals word) text (number_in o.names (before_first is_equals word)))

abbrev pub schedule_text : List ℕ
schedule_text = codes "a schedule is numbers of processes with commas between them, as 1,2,1"

-- the line of a reason
abbrev pub reason_line : List ℕ → List ℕ
reason_line reason = codes "  " & reason & codes "\n"

-- that line, of a word and an outline
abbrev pub IsValueRemark : Gives → Program → List ℕ → List ℕ → Type 0
IsValueRemark what o word line =
    (reason : List ℕ) × IsWordReason what o word reason × (line ≡ reason_line reason)
