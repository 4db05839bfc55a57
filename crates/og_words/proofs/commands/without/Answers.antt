use Rattle.std.proofs.lemmas.Result.{IfOk-weaker}
use Rattle.og_words.proofs.Made.{excluding}
use Rattle.og_words.proofs.commands.without.Goals as goal

pub returns : goal.returns
returns c = IfOk-weaker c.conflicts_with.result _ _ (λ r h. λ rule is. excluding c.args.arg r rule _ h.0 h.1 is) c.conflicts_with.ensures
