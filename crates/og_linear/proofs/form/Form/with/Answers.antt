use Rattle.std.proofs.Common.{sym, ap, subst, ◌∙◌}
use Rattle.og_linear.specs.Arith.{plus}
use Rattle.og_linear.specs.Answer.{IsAnswer, checked}
use Rattle.og_linear.specs.declared.fault.FormFault.TheVariants as faults
use Rattle.og_linear.proofs.Kept.{once}
use Rattle.og_linear.proofs.form.Form.with.Goals as goal

pub returns-in_ok-copy : goal.returns-in_ok-copy
returns-in_ok-copy c =
    let sum = once c.args.self.now c.args.other.now c.numbers_fit.ensures.tidy c.numbers_fit.ensures.fits in
    subst (IsAnswer (λ f. f) faults.TooLarge c.offset_plus.result) (ap (λ g. checked (plus c.args.self.now g)) c.in_ok-copy.ensures ∙ sym sum) c.offset_plus.ensures

pub returns-else-len-eq0 : goal.returns-else-len-eq0
returns-else-len-eq0 c =
    subst (IsAnswer (λ f. f) faults.TooLarge c.plus.result) (sym (once c.args.self.now c.args.other.now c.numbers_fit.ensures.tidy c.numbers_fit.ensures.fits)) c.plus.ensures
