use Rattle.std.proofs.Common.{negsuc, sym, ◌∙◌}
use Rattle.og_linear.proofs.Steps.{tidy_scale}
use Rattle.og_facts.proofs.atom.Atom.with_negated.Goals as goal

pub invariant_of-result : goal.invariant_of-result
invariant_of-result c = (tidy_scale (negsuc 0) 0 c.args.form.now.terms c.numbers_fit.ensures.tidy, sym c.has_negation.ensures ∙ c.if-has_negation.true)
