use Rattle.og_linear.proofs.Coefficients.{same_terms, coefficient-merge, coefficient-scale_terms, coefficient-without, each_fits}
use Rattle.og_linear.proofs.laws.coefficient_laws.Goals as goal

pub returns-clause-same : goal.returns-clause-same
returns-clause-same c = λ a b h k e. same_terms a b 0 0 h k e

pub returns-clause-plus : goal.returns-clause-plus
returns-clause-plus c = λ a b x h k. coefficient-merge a b 0 x h k

pub returns-clause-scaled : goal.returns-clause-scaled
returns-clause-scaled c = λ k a x h. coefficient-scale_terms k a 0 x h

pub returns-clause-without : goal.returns-clause-without
returns-clause-without c = coefficient-without

pub returns-clause-fits : goal.returns-clause-fits
returns-clause-fits c = each_fits
