-- A source has one outline.
use Rattle.std.proofs.Common.{◌≡◌, ◌∙◌, sym, ap, subst, ℕ, List}
use Rattle.og_text.specs.declared.token.Token.{Token}
use Rattle.og_text.proofs.OneCut.{one_tokens}
use Rattle.og_parse.specs.Limits.{level_limit}
use Rattle.og_parse.specs.Grammar.{IsOutline}
use Rattle.og_parse.proofs.Parsing.{one_outline}
use Rattle.og_typed.specs.Syntax.{Program}
use Rattle.og_typed.specs.Resolved.{resolved}
use Rattle.og_typed.proofs.Below.{ok_same}
use Rattle.og_typed.specs.Source.{IsSource}

pub one_source : (source : List ℕ) (a b : Program) → IsSource source a → IsSource source b → a ≡ b
one_source source a b is_a is_b =
    let tokens : is_a.tokens ≡ is_b.tokens = one_tokens source is_a.tokens is_b.tokens is_a.cut is_b.cut in
    let parsed : IsOutline level_limit is_a.tree is_b.tokens = subst (λ (t : List Token). IsOutline level_limit is_a.tree t) tokens is_a.parsed in
    let trees : is_a.tree ≡ is_b.tree = one_outline is_a.tree is_b.tree is_b.tokens (level_limit, parsed) (level_limit, is_b.parsed) in
    ok_same a b (sym is_a.outline ∙ ap resolved trees ∙ is_b.outline)
