use Rattle.std.proofs.Common.{subst, IfOk}
use Rattle.std.proofs.lemmas.Result.{IfOk-weaker}
use Rattle.og_words.specs.Made.{IsArg, IsCommand}
use Rattle.og_words.proofs.Made.{with_arg}
use Rattle.og_words.proofs.commands.with_arg.Goals as goal

pub returns : goal.returns
returns c = λ s rule is of.
    let command = subst (λ r. IfOk r (IsCommand s)) c.in_ok-command.was is in
    let arg = subst (λ r. IfOk r (IsArg rule)) c.in_ok-arg.was of in
    IfOk-weaker c.arg.result _ _ (λ r h. with_arg c.in_ok-command.field-0 r c.in_ok-arg.field-0 rule s command arg h) c.arg.ensures
