use Rattle.std.proofs.lemmas.Result.{IfOk-weaker}
use Rattle.og_words.proofs.Made.{needing}
use Rattle.og_words.proofs.commands.beside.Goals as goal

pub returns : goal.returns
returns c = IfOk-weaker c.requires_arg.result _ _ (λ r h. λ rule is. needing c.args.arg r rule _ h.0 h.1 is) c.requires_arg.ensures
