use Rattle.std.proofs.Common.{◌≡◌, subst, IfOk}
use Rattle.std.proofs.lemmas.Result.{IfOk-weaker}
use Rattle.clap.specs.Words.{app_of}
use Rattle.og_words.specs.Made.{IsCommand}
use Rattle.og_words.proofs.Made.{with_word}
use Rattle.og_words.proofs.commands.with_word.Goals as goal

pub returns : goal.returns
returns c = λ a s same is.
    let old = subst (λ r. IfOk r (λ p. app_of p ≡ a)) c.in_ok-program.was same in
    let word = subst (λ r. IfOk r (IsCommand s)) c.in_ok-word.was is in
    IfOk-weaker c.subcommand.result _ _ (λ r h. with_word c.in_ok-program.field-0 r c.in_ok-word.field-0 a s old word h) c.subcommand.ensures
