-- The outline of a source, and why a source has none.
use Rattle.std.specs.Prelude.{◌≡◌, ℕ, ◌≤◌, List, Ok}
use Rattle.og_text.specs.declared.token.Token.{Token}
use Rattle.og_text.specs.Cut.{AreTokensOf}
use Rattle.og_parse.specs.Trees.{Outline}
use Rattle.og_parse.specs.Grammar.{IsOutline}
use Rattle.og_parse.specs.Limits.{level_limit, statement_limit, statement_count}
use Rattle.og_typed.specs.Syntax.{Program}
use Rattle.og_typed.specs.Resolved.{resolved}

-- the source is cut into tokens, which stand for a tree, whose names are resolved to this outline
pub record IsSource (source : List ℕ) (o : Program) : Type 0 where
  pub tokens : List Token
  pub tree : Outline
  pub cut : AreTokensOf source tokens
  pub parsed : IsOutline level_limit tree tokens
  pub few : statement_count tokens ≤ statement_limit
  pub outline : resolved tree ≡ Ok o
