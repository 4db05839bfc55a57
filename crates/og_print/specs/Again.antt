-- The text printed of a parsed tree is parsed to that tree again.
use Rattle.std.specs.Prelude.{◌≡◌, ℕ, ◌≤◌, List, Result, Ok, Err}
use Rattle.og_text.specs.Cut.{AreTokensOf}
use Rattle.og_text.specs.declared.token.Token.{Token}
use Rattle.og_parse.specs.declared.raw.Raw.{Raw}
use Rattle.og_parse.specs.declared.fault.ParseError.{ParseError}
use Rattle.og_parse.specs.declared.fault.ParseError.TheVariants as errors
use Rattle.og_parse.specs.Trees.{Outline}
use Rattle.og_parse.specs.TreeOf.{tree_of}
use Rattle.og_parse.specs.Grammar.{IsOutline}
use Rattle.og_parse.specs.Parsed.{IsParsed}
use Rattle.og_parse.specs.Limits.{statement_count}
use Rattle.og_print.specs.Plain.{plain}
use Rattle.og_print.specs.Print.{kinds_of, outline_words}

-- The tree stands for the tokens of some source text, within these limits.
pub record IsRead (levels statements : ℕ) (tree : Outline) : Type 0 where
  pub source : List ℕ
  pub tokens : List Token
  pub are : AreTokensOf source tokens
  pub is_read : IsOutline levels tree tokens
  pub few : statement_count tokens ≤ statements

-- the same tree, apart from the places, unless memory ran out
abbrev pub IsAgain : Outline → Result Raw ParseError → Type 0
IsAgain tree (Ok raw) = plain (tree_of raw) ≡ plain tree
IsAgain tree (Err errors.Memory) = Unit {0}
IsAgain tree (Err (errors.Fault fault)) = ⊥

-- The text is cut into the lexemes of the tree and no others, these stand for the tree again, apart from the places and
-- within the limits, and whatever is parsed from tokens of the text is that tree.
pub record ReadsBack (levels statements : ℕ) (tree : Outline) (text : List ℕ) : Type 0 where
  pub tokens : List Token
  pub are : AreTokensOf text tokens
  pub words : kinds_of tokens ≡ outline_words tree
  pub copy : Outline
  pub same : plain copy ≡ plain tree
  pub is_read : IsOutline levels copy tokens
  pub few : statement_count tokens ≤ statements
  pub again : (others : List Token) (answer : Result Raw ParseError) → AreTokensOf text others → IsParsed levels statements others answer → IsAgain tree answer
