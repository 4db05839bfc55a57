use Rattle.og_subst.proofs.Touching.{touches_said, kept_said}
use Rattle.og_subst.proofs.Moved.{all_fit_said}
use Rattle.og_subst.proofs.laws.action_laws.Goals as goal

pub returns-clause-touches : goal.returns-clause-touches
returns-clause-touches c = touches_said

pub returns-clause-kept : goal.returns-clause-kept
returns-clause-kept c = kept_said

pub returns-clause-fit : goal.returns-clause-fit
returns-clause-fit c = all_fit_said
