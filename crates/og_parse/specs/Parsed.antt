-- What a parser answers.
use Rattle.std.specs.Prelude.{ℕ, ◌≤◌, List, Result, Ok, Err}
use Rattle.og_text.specs.declared.token.Token.{Token}
use Rattle.og_parse.specs.declared.raw.Raw.{Raw}
use Rattle.og_parse.specs.declared.fault.ParseError.{ParseError}
use Rattle.og_parse.specs.declared.fault.ParseError.TheVariants as errors
use Rattle.og_parse.specs.TreeOf.{tree_of}
use Rattle.og_parse.specs.Grammar.{IsOutline}
use Rattle.og_parse.specs.Limits.{statement_count}
use Rattle.og_parse.specs.Faults.{IsFault}

-- the outline that the tokens stand for, or the first fault, unless memory ran out
abbrev pub IsParsed : ℕ → ℕ → List Token → Result Raw ParseError → Type 0
IsParsed levels statements tokens (Ok raw) = IsOutline levels (tree_of raw) tokens × (statement_count tokens ≤ statements)
IsParsed levels statements tokens (Err errors.Memory) = Unit {0}
IsParsed levels statements tokens (Err (errors.Fault fault)) = IsFault levels statements tokens fault
