-- How a refusal of a part, with the tokens that it left, becomes the error of the whole.
use Rattle.std.specs.Prelude.{◌≡◌, ℕ, ◌<◌, ◌≤◌, List, [], ◌∷◌, ◌++◌}
use Rattle.og_text.specs.declared.place.Span.{Span}
use Rattle.og_text.specs.declared.token.Token.{Token}
use Rattle.og_parse.specs.declared.refusal.FaultKind.TheVariants as stops
use Rattle.og_parse.specs.declared.refusal.Refusal.{Refusal}
use Rattle.og_parse.specs.declared.refusal.Refusal.TheVariants as refusals
use Rattle.og_parse.specs.declared.fault.ParseFault.TheVariants as faults
use Rattle.og_parse.specs.declared.fault.ParseError.{ParseError}
use Rattle.og_parse.specs.declared.fault.ParseError.TheVariants as errors
use Rattle.og_parse.specs.Faults.{place_of}
use Rattle.og_parse.specs.Limits.{statement_count}

abbrev pub error_of : List Token → Refusal → List Token → ParseError
error_of tokens refusals.Memory left = errors.Memory
error_of tokens (refusals.Fault stops.Expected) left = errors.Fault (faults.Expected (place_of tokens left))
error_of tokens (refusals.Fault stops.TooDeep) left = errors.Fault (faults.TooDeep (place_of tokens left))

-- the front ends with the first token of the first statement above the limit
pub record IsExcess (limit : ℕ) (tokens front : List Token) (span : Span) : Type 0 where
  pub before : List Token
  pub token : Token
  pub after : List Token
  pub parts : tokens ≡ before ++ token ∷ after
  pub front_is : front ≡ before ++ token ∷ []
  pub span_is : span ≡ token.span
  pub few : statement_count before ≤ limit
  pub too_many : limit < statement_count (before ++ token ∷ [])

-- the fault at a token, where it is the last one
abbrev pub expected_at : List Token → Span → ParseError
expected_at [] span = errors.Fault (faults.TooManyStatements span)
expected_at (token ∷ rest) span = errors.Fault (faults.Expected token.span)

abbrev pub too_deep_at : List Token → Span → ParseError
too_deep_at [] span = errors.Fault (faults.TooManyStatements span)
too_deep_at (token ∷ []) span = errors.Fault (faults.TooManyStatements span)
too_deep_at (token ∷ next ∷ rest) span = errors.Fault (faults.TooDeep token.span)

abbrev pub excess_error : Refusal → List Token → Span → ParseError
excess_error refusals.Memory left span = errors.Memory
excess_error (refusals.Fault stops.Expected) left span = expected_at left span
excess_error (refusals.Fault stops.TooDeep) left span = too_deep_at left span
