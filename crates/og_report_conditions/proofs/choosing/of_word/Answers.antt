use Rattle.std.proofs.Common.{inl, inr, refl}
use Rattle.std.proofs.lemmas.Result.{IfOk-weaker}
use Rattle.og_io.specs.Numbers.{AreNumbers}
use Rattle.og_report_conditions.proofs.choosing.of_word.Goals as goal

pub returns-clause-reply : goal.returns-clause-reply
returns-clause-reply c = inr ((refl, c.in_ok-no_numbers-in-None.ensures), rw c.in-None.is at c.in_ok-numbers.ensures.none refl)

pub returns-in-Some-clause-reply : goal.returns-in-Some-clause-reply
returns-in-Some-clause-reply c =
    let some : AreNumbers c.args.word.now c.in-Some.numbers.items = rw c.in-Some.is at c.in_ok-numbers.ensures.some in
    IfOk-weaker c.of_numbers.result _ _ (λ r h. inl (c.in-Some.numbers.items, some, h)) c.of_numbers.ensures.reply
