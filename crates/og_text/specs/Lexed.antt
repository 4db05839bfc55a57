-- What `lex` answers besides: an error, and where its tokens lie.
use Rattle.std.specs.Prelude.{ℕ, ◌^◌, ◌<◌, ◌≤◌, List, length}
use Rattle.og_text.specs.declared.fault.LexError.{LexError}
use Rattle.og_text.specs.declared.fault.LexError.TheVariants as errors
use Rattle.og_text.specs.declared.token.Token.{Token}
use Rattle.og_text.specs.Refused.{IsFaultOf}

-- an error of a text: its fault, or want of memory, which says only that the text is within its limit
abbrev pub IsErrorOf : List ℕ → LexError → Type 0
IsErrorOf text errors.Memory = length text ≤ 2 ^ 20
IsErrorOf text (errors.Fault fault) = IsFaultOf text fault

-- the token holds some bytes, all within a length
abbrev pub LiesWithin : ℕ → Token → Type 0
LiesWithin limit token = (token.span.start < token.span.end) × (token.span.end ≤ limit)
