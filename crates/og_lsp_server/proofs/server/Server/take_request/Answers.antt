use Rattle.std.proofs.Common.{◌≡◌, Some, sym, ◌∙◌, ap, refl, subst}
use Rattle.serde_json.specs.View.{view}
use Rattle.og_lsp_message.specs.declared.code.ErrorCode.{ErrorCode}
use Rattle.og_lsp_message.specs.Ids.{id_data}
use Rattle.og_lsp_message.specs.Answers.{answer_data, error_data}
use Rattle.og_lsp_server.specs.Methods.{method_named}
use Rattle.og_lsp_server.specs.Replies.{refused_with, phase_behind}
use Rattle.og_lsp_server.proofs.Replying.{result_reply, error_reply}
use Rattle.og_lsp_server.proofs.server.Server.take_request.Goals as goal

pub returns-in_ok-answer-in-Ok-clause-answered : goal.returns-in_ok-answer-in-Ok-clause-answered
returns-in_ok-answer-in-Ok-clause-answered g c =
    let phase = c.args.self.now.phase in
    let owed = refused_with phase (method_named c.args.method.now) in
    let none : (code : ErrorCode) → owed ≡ Some code → ⊥ = λ code e. c.in-Ok.ensures.refused code (subst (λ m. refused_with phase m ≡ Some code) (sym c.method_named.ensures) e) in
    (answer_data (id_data c.args.id) (view c.in-Ok.value), result_reply owed (id_data c.args.id) (view c.in-Ok.value) none, c.in_ok-answer-in-Ok.ensures.ok)

pub returns-in_ok-error-in-Err-Refused-clause-answered : goal.returns-in_ok-error-in-Err-Refused-clause-answered
returns-in_ok-error-in-Err-Refused-clause-answered g c =
    let phase = c.args.self.now.phase in
    let owed = refused_with phase (method_named c.args.method.now) in
    let refused = rw c.in-Err-Refused.field-0-is at c.in-Err-Refused.ensures.refused in
    let same : (other : ErrorCode) → owed ≡ Some other → c.in-Err-Refused.code ≡ other =
    λ other e. (let k = refused other (subst (λ m. refused_with phase m ≡ Some other) (sym c.method_named.ensures) e) in cc) in (
      error_data (id_data c.args.id) c.in-Err-Refused.code c.in-Err-Refused.why.now,
      error_reply owed (id_data c.args.id) c.in-Err-Refused.code c.in-Err-Refused.why.now same,
      c.in_ok-error-in-Err-Refused.ensures.ok,
    )

pub returns-in_ok-error-in-Err-Refused-clause-phase : goal.returns-in_ok-error-in-Err-Refused-clause-phase
returns-in_ok-error-in-Err-Refused-clause-phase g c =
    let stays = rw c.in-Err-Refused.field-0-is at c.in-Err-Refused.ensures.stays in
    stays c.in-Err-Refused.code refl ∙ ap (phase_behind c.args.self.now.phase) c.method_named.ensures
