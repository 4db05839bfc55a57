use Rattle.std.proofs.Common.{refl, ap, sym, ◌∙◌}
use Rattle.og_cert_read.specs.Firsts.{found}
use Rattle.og_cert_read.proofs.Firsts.{noted}
use Rattle.og_report_prove.proofs.earlier.number_or_add.Goals as goal

pub returns-clause-firsts : goal.returns-clause-firsts
returns-clause-firsts c =
    noted c.args.text c.args.number c.args.firsts.now c.insert.new.self c.args.text.items refl
    (ap (λ t. found t c.args.firsts.now) (sym c.as_slice.ensures.value) ∙ sym c.get.ensures.value ∙ sym c.copied.ensures ∙ c.in_default.is) c.in_ok-insert.ensures.updates
