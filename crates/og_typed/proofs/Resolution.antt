-- From the error of `resolve` to that of the source.
use Rattle.std.proofs.Common.{◌≡◌, ℕ, ◌≤◌, List, sym, subst}
use Rattle.og_text.specs.declared.token.Token.{Token}
use Rattle.og_text.specs.Cut.{AreTokensOf}
use Rattle.og_parse.specs.Trees.{Outline}
use Rattle.og_parse.specs.Grammar.{IsOutline}
use Rattle.og_parse.specs.Limits.{level_limit, statement_limit, statement_count}
use Rattle.og_typed.specs.Resolved.{resolved}
use Rattle.og_typed.specs.Answer.{FailsAs}
use Rattle.og_typed.specs.declared.fault.TypeError.{TypeError}
use Rattle.og_typed.specs.declared.fault.TypeError.TheVariants as resolve
use Rattle.og_typed.specs.declared.source_fault.SourceError.{SourceError}
use Rattle.og_typed.specs.Errors.{of_type}
use Rattle.og_typed.specs.Refused.{IsNotRead}

pub not_resolved : (source : List ℕ) (tokens : List Token) (tree : Outline) (e : TypeError) (why : SourceError)
    → AreTokensOf source tokens → IsOutline level_limit tree tokens → statement_count tokens ≤ statement_limit → FailsAs e (resolved tree)
    → why ≡ of_type e → IsNotRead source why
not_resolved source tokens tree resolve.Memory why cut parsed few fails is = subst (IsNotRead source) (sym is) tt
not_resolved source tokens tree (resolve.Fault fault) why cut parsed few fails is =
    subst (IsNotRead source) (sym is) (tokens, tree, cut, parsed, few, fails)
