-- The message about a run that does not begin.
use Rattle.std.specs.Prelude.{◌≡◌, ℕ, zero, suc, ℤ, true, List, [], ◌∷◌, if◌then◌else◌, ◌==◌, Option, None, Some, IfSome, Vec, slice_get, codes}
use Rattle.std.specs.Ordering.{int_eq}
use Rattle.std.specs.Global.{Global}
use Rattle.og_linear.specs.Linear.{value_at}
use Rattle.og_typed.specs.Syntax.{Program}
use Rattle.og_typed.specs.Machine.{IsStart}
use Rattle.og_typed.specs.declared.assertion.Assert.{Assert}
use Rattle.og_report_text.specs.Places.{◌&◌, position_of, position_text}
use Rattle.og_report_text.specs.Listing.{name_text, constant_text}
use Rattle.og_report_text.specs.Values.{values_text}
use Rattle.og_report_refusal.specs.Names.{shown_name}
use Rattle.og_report_explain.specs.Explanations.{IsFalseNote}
use Rattle.og_report_prove.specs.Blocks.{false_lines}
use Rattle.og_command_run.specs.Words.{Give}
use denote.Ref.{Bor}

-- FILE:LINE:COLUMN: refused: 50 NotPre
abbrev pub refused_text : List ℕ → List ℕ → ℕ → List ℕ
refused_text name source at = shown_name name & codes ":" & position_text (position_of source at) & codes ": refused: 50 NotPre\n"

module _ (names : List (List ℕ)) (s : List ℤ) where
  -- a variable with its value, after a comma where it is not the first
  abbrev pub start_value : ℕ → List ℕ
  start_value x = (if x == 0 then [] else codes ", ") & values_text names s (x ∷ [])

  -- the first n variables with their values
  abbrev pub start_values : ℕ → List ℕ
  start_values zero = []
  start_values (suc n) = start_values n & start_value n

  -- the line of them, where there are some
  abbrev pub start_line : ℕ → List ℕ
  start_line n = if n == 0 then [] else codes "  start: " & start_values n & codes "\n"

  -- the word that gives a variable its value at a start, after a blank, where that is another one
  abbrev pub start_word : List ℤ → ℕ → List ℕ
  start_word start x =
      if int_eq (value_at start x) (value_at s x) then [] else codes " " & name_text (slice_get names x) & codes "=" & constant_text true (value_at start x)

  -- those of the first n variables
  abbrev pub start_words : List ℤ → ℕ → List ℕ
  start_words start zero = []
  start_words start (suc n) = start_words start n & start_word start n

  -- a start by its words, where one is known, and the end of the line
  abbrev pub hint_text : Option (List ℤ) → ℕ → List ℕ
  hint_text None n = codes "\n"
  hint_text (Some start) n = codes "; a start:" & start_words start n & codes "\n"

  -- advice, where there are some
  abbrev pub help_line : Option (List ℤ) → ℕ → List ℕ
  help_line start n =
      if n == 0 then [] else codes "help: words NAME=INT give variables their values at the start, which are else 0" & hint_text start n

-- the place of the precondition, the values of the variables that are no auxiliaries, the conjuncts that are false, and a start
abbrev pub start_text : List ℕ → List ℕ → Program → List ℤ → List (Bor Assert) → Option (List ℤ) → List ℕ
start_text name source o s found start =
    refused_text name source o.pre.at & start_line o.names s o.vars & false_lines o.names source None o.pre.at found
    & help_line o.names s start o.vars

-- these are all conjuncts of the precondition that are false in the state s, and the start is one
pub record IsStartOf (name source : List ℕ) (o : Program) (s : List ℤ) (text : List ℕ) : Type 0 where
  pub found : Vec (Bor Assert) Global
  pub is_false : IsFalseNote s o.pre found
  pub start : Option (List ℤ)
  pub is_start : IfSome start (IsStart o)
  pub written : text ≡ start_text name source o s found.items start

-- the same of the state that the words give
abbrev pub IsStartRemark : List ℕ → List ℕ → Program → List (List ℕ) → List ℕ → Type 0
IsStartRemark name source o words text =
    (values : List ℤ) × Give o words values × IsStartOf name source o values text
