use Rattle.std.proofs.Common.{◌≡◌, ◌∙◌, ℕ, List, false, sym, subst}
use Rattle.std.proofs.lemmas.Result.{IfOk-weaker}
use Rattle.og_template.specs.Front.{is_template}
use Rattle.og_lsp_names.specs.Choices.{front, in_comment, AreChoicesBehind, AreChoicesOf, AreChoices}
use Rattle.og_lsp_names.specs.declared.choosing.Choice.{Choice}
use Rattle.og_lsp_names.proofs.choosing.choices_at.Goals as goal

outline_behind : (before same : List ℕ) (choices : List Choice) → same ≡ before → in_comment same ≡ false → is_template same ≡ false → AreChoicesBehind same choices → AreChoices before choices
outline_behind before same choices is code outline those =
    subst (λ x. AreChoices x choices) is
    (subst (λ t. AreChoicesOf t (is_template same) same choices) (sym code) (subst (λ t. AreChoicesOf false t same choices) (sym outline) those))

pub returns-else-is_template : goal.returns-else-is_template
returns-else-is_template c =
    IfOk-weaker c.outline_choices.result _ _
    (λ choices those.
    outline_behind (front c.args.text.now c.args.at) c.front-front.result.now choices.items c.front-front.ensures (sym c.in_comment.ensures ∙ c.if-in_comment.false)
    (sym c.is_template.ensures ∙ c.if-is_template.false) those)
    c.outline_choices.ensures
