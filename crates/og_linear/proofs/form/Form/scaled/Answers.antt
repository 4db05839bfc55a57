use Rattle.std.proofs.Common.{sym, subst}
use Rattle.og_linear.specs.Tidy.{IsTidy}
use Rattle.og_linear.proofs.Steps.{checked_tidy, tidy_scale}
use Rattle.og_linear.proofs.form.Form.scaled.Goals as goal

pub invariant_of-result : goal.invariant_of-result
invariant_of-result c = checked_tidy _ c.in_ok-terms.terms.items c.in_ok-terms.ensures (tidy_scale _ 0 c.deref.result.now (subst IsTidy (sym c.deref.ensures.value) c.self.invariant.0))
