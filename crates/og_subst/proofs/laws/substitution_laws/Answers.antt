use Rattle.og_subst.proofs.Moved.{forward_said, values_said, after_said, ranges_said, fits_said, refused_said}
use Rattle.og_subst.proofs.laws.substitution_laws.Goals as goal

pub returns-clause-forward : goal.returns-clause-forward
returns-clause-forward c = forward_said

pub returns-clause-values : goal.returns-clause-values
returns-clause-values c = values_said

pub returns-clause-after : goal.returns-clause-after
returns-clause-after c = after_said

pub returns-clause-ranges : goal.returns-clause-ranges
returns-clause-ranges c = ranges_said

pub returns-clause-fits : goal.returns-clause-fits
returns-clause-fits c = fits_said

pub returns-clause-refused : goal.returns-clause-refused
returns-clause-refused c = refused_said
