use Rattle.std.proofs.Common.{◌≡◌, [], ◌∷◌, ◌∙◌, ap, arith}
use Rattle.std.proofs.lemmas.Fmt.{decimal_digit}
use Rattle.std.proofs.lemmas.Grind.{common_steps}
use Rattle.std.specs.Fmt.{decimal}
use Rattle.og_cert_text.proofs.write.put_times.Goals as goal

pub returns-then-times-eq1 : goal.returns-then-times-eq1
returns-then-times-eq1 c =
    let one : decimal c.args.times ≡ 49 ∷ [] = ap decimal c.if-times-eq1.true ∙ decimal_digit 1 (omega arith) in
    grind (arith, common_steps, one, c.extend_from_slice.ensures.items)
