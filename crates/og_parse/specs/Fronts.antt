-- How a list of a language may begin.
use Rattle.std.specs.Prelude.{List, ◌++◌}
use Rattle.og_text.specs.declared.token.Token.{Token}
use Rattle.og_parse.specs.Language.{Language}

-- some list of the language begins so
pub record Begins {X : Type 0} (is : Language X) (front : List Token) : Type 0 where
  pub value : X
  pub tail : List Token
  pub whole : is value (front ++ tail)
