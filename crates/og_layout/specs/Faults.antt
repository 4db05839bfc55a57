-- Why a text is not laid out.
use Rattle.std.specs.Prelude.{◌≡◌, ℕ, ◌^◌, ◌≤◌, ◌⊎◌, true, false, List, length}
use Rattle.og_text.specs.declared.fault.LexError.{LexError}
use Rattle.og_text.specs.declared.fault.LexError.TheVariants as lex
use Rattle.og_text.specs.Lexed as outlines
use Rattle.og_template.specs.Front.{is_template}
use Rattle.og_template.specs.Words as templates
use Rattle.og_layout.specs.declared.fault.LayoutError.{LayoutError}
use Rattle.og_layout.specs.declared.fault.LayoutError.TheVariants as errors
use Rattle.og_layout.specs.declared.parts.Part.{Part}
use Rattle.og_layout.specs.Pieces.{AreParts}

-- why a template, or every other text, has no words
abbrev pub IsErrorOfWords : List ℕ → LexError → Type 0
IsErrorOfWords text error =
    ((is_template text ≡ true) × templates.IsErrorOf text error) ⊎ ((is_template text ≡ false) × outlines.IsErrorOf text error)

abbrev pub from_lex : LexError → LayoutError
from_lex lex.Memory = errors.Memory
from_lex (lex.Fault fault) = errors.Fault fault

-- memory ran out over a text within its limit; or the text has this fault; or it has pieces and its layout is refused
abbrev pub IsErrorOf : List ℕ → LayoutError → Type 0
IsErrorOf text errors.Memory = length text ≤ 2 ^ 20
IsErrorOf text (errors.Fault fault) = IsErrorOfWords text (lex.Fault fault)
IsErrorOf text errors.TooLong = (parts : List Part) × AreParts text parts
IsErrorOf text errors.Differs = (parts : List Part) × AreParts text parts
