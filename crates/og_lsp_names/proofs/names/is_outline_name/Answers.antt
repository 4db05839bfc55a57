use Rattle.std.proofs.Common.{◌∙◌, Bool, ap, sym, subst}
use Rattle.std.specs.Bool.{MatchBool}
use Rattle.og_text.specs.Lexed.{IsErrorOf}
use Rattle.og_lsp_names.specs.Names.{is_one_token, IsOutlineName}
use Rattle.og_lsp_names.proofs.Naming.{token_is, token_none}
use Rattle.og_lsp_names.proofs.names.is_outline_name.Goals as goal

pub returns-in-Ok : goal.returns-in-Ok
returns-in-Ok c =
    let name = c.args.name.now in
    subst (λ (b : Bool). MatchBool b (IsOutlineName name) (IsOutlineName name → ⊥)) (sym (c.is_one_token.ensures ∙ ap (is_one_token name) c.deref.ensures.value))
    (token_is name c.in-Ok.tokens.items c.in-Ok.ensures.tokens)

pub returns-in-Err-Fault : goal.returns-in-Err-Fault
returns-in-Err-Fault c =
    let name = c.args.name.now in
    token_none name c.in-Err-Fault.field-0-0 (subst (IsErrorOf name) c.in-Err-Fault.field-0-is c.in-Err-Fault.ensures.error)
