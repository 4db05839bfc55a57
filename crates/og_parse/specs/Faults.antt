-- What a list of tokens stands for, or where it stops to be an outline.
use Rattle.std.specs.Prelude.{◌≡◌, ℕ, ◌+◌, ◌<◌, ◌≤◌, List, [], ◌∷◌, ◌++◌, codes}
use Rattle.og_text.specs.declared.place.Span.{Span}
use Rattle.og_text.specs.declared.token.Token.{Token}
use Rattle.og_parse.specs.Language.{Language}
use Rattle.og_parse.specs.Fronts.{Begins}
use Rattle.og_parse.specs.declared.fault.ParseFault.{ParseFault}
use Rattle.og_parse.specs.declared.fault.ParseFault.TheVariants as faults
use Rattle.og_parse.specs.Trees.{Outline}
use Rattle.og_parse.specs.Grammar.{IsOutline}
use Rattle.og_parse.specs.Limits.{statement_count}

-- ---- the place of a fault: the next token, or the end of the last one

abbrev pub last_end : List Token → ℕ
last_end [] = 0
last_end (token ∷ []) = token.span.end
last_end (token ∷ next ∷ tokens) = last_end (next ∷ tokens)

abbrev pub end_place : ℕ → Span
end_place at = record { start = at; end = at }

abbrev pub place_of : List Token → List Token → Span
place_of before [] = end_place (last_end before)
place_of before (token ∷ tokens) = token.span

-- ---- the first fault

-- The tokens come to a place with no fault before it: those before it begin an outline within the limits.
pub record ComesTo (levels statements : ℕ) (tokens before rest : List Token) : Type 0 where
  pub parts : tokens ≡ before ++ rest
  pub begins : Begins (IsOutline levels) before
  pub few : statement_count before ≤ statements

-- an outline with any number of levels
abbrev pub IsAnyOutline : Language Outline
IsAnyOutline outline tokens = (n : ℕ) × IsOutline n outline tokens

-- no outline goes on with the next token, or ends here where there is none
abbrev pub GoesNowhere : List Token → List Token → Type 0
GoesNowhere before [] = (outline : Outline) → IsAnyOutline outline before → ⊥
GoesNowhere before (token ∷ tokens) = Begins IsAnyOutline (before ++ token ∷ []) → ⊥

-- the next token goes on with an outline, but with no outline that has as few levels
pub record IsTooDeep (levels : ℕ) (before : List Token) (token : Token) : Type 0 where
  pub goes_on : Begins IsAnyOutline (before ++ token ∷ [])
  pub too_deep : Begins (IsOutline levels) (before ++ token ∷ []) → ⊥

-- the next token goes on with an outline, and begins one statement too many
pub record IsTooMany (statements : ℕ) (before : List Token) (token : Token) : Type 0 where
  pub goes_on : Begins IsAnyOutline (before ++ token ∷ [])
  pub too_many : statements < statement_count (before ++ token ∷ [])

-- At one token Expected comes before TooManyStatements, and this before TooDeep.
abbrev pub IsFault : ℕ → ℕ → List Token → ParseFault → Type 0
IsFault levels statements tokens (faults.Expected span) =
    (before rest : List Token) × ComesTo levels statements tokens before rest × GoesNowhere before rest × (span ≡ place_of before rest)
IsFault levels statements tokens (faults.TooDeep span) =
    (before after : List Token) × (token : Token) × ComesTo levels statements tokens before (token ∷ after) × IsTooDeep levels before token × (statement_count (before ++ token ∷ []) ≤ statements) × (span ≡ token.span)
IsFault levels statements tokens (faults.TooManyStatements span) =
    (before after : List Token) × (token : Token) × ComesTo levels statements tokens before (token ∷ after) × IsTooMany statements before token × (span ≡ token.span)

-- ---- how a fault is reported

abbrev pub fault_number : ParseFault → ℕ
fault_number (faults.Expected span) = 7
fault_number (faults.TooDeep span) = 8
fault_number (faults.TooManyStatements span) = 9

abbrev pub fault_name : ParseFault → List ℕ
fault_name (faults.Expected span) = codes "Expected"
fault_name (faults.TooDeep span) = codes "TooDeep"
fault_name (faults.TooManyStatements span) = codes "TooManyStatements"

abbrev pub fault_span : ParseFault → Span
fault_span (faults.Expected span) = span
fault_span (faults.TooDeep span) = span
fault_span (faults.TooManyStatements span) = span
