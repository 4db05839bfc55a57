use Rattle.std.proofs.Common.{◌∙◌, Bool, ap, sym, subst}
use Rattle.std.specs.Bool.{MatchBool}
use Rattle.og_template.specs.Words.{IsErrorOf}
use Rattle.og_lsp_names.specs.Names.{is_one_word, IsTemplateName}
use Rattle.og_lsp_names.proofs.Naming.{word_is, word_none}
use Rattle.og_lsp_names.proofs.names.is_template_name.Goals as goal

pub returns-in-Ok : goal.returns-in-Ok
returns-in-Ok c =
    let name = c.args.name.now in
    subst (λ (b : Bool). MatchBool b (IsTemplateName name) (IsTemplateName name → ⊥)) (sym (c.is_one_word.ensures ∙ ap (is_one_word name) c.deref.ensures.value))
    (word_is name c.in-Ok.all.items c.in-Ok.ensures.words)

pub returns-in-Err-Fault : goal.returns-in-Err-Fault
returns-in-Err-Fault c =
    let name = c.args.name.now in
    word_none name c.in-Err-Fault.field-0-0 (subst (IsErrorOf name) c.in-Err-Fault.field-0-is c.in-Err-Fault.ensures.error)
