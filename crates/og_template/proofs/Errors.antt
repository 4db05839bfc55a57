-- The errors of a text without its marks.
use Rattle.std.proofs.Common.{ℕ, ◌≤◌, ◌^◌, List, length, inr}
use Rattle.og_text.specs.declared.fault.LexError.{LexError}
use Rattle.og_text.specs.declared.fault.LexError.TheVariants as errors
use Rattle.og_text.specs.Lexed as lexed
use Rattle.og_template.specs.Mask.{masked}
use Rattle.og_template.specs.Words.{IsErrorOf}

pub error_of_masked : (text : List ℕ) (error : LexError) → length text ≤ 2 ^ 20 → lexed.IsErrorOf (masked text) error → IsErrorOf text error
error_of_masked text errors.Memory short is = short
error_of_masked text (errors.Fault fault) short is = inr is
