use Rattle.std.proofs.Common.{◌∙◌, ap}
use Rattle.og_linear.specs.Replaced.{other_terms}
use Rattle.og_linear.proofs.Steps.{others_tidy}
use Rattle.og_linear.proofs.form.Form.without.Goals as goal

pub invariant_of-result : goal.invariant_of-result
invariant_of-result c =
    others_tidy c.args.var c.self.inside.terms.items c.in_ok-others.field-0.items (c.in_ok-others.ensures ∙ ap (other_terms c.args.var) c.deref.ensures.value) c.self.invariant
