use Rattle.og_facts.proofs.Refuted.{facts_said, facts_counted}
use Rattle.og_facts.proofs.laws.facts_law.Goals as goal

pub returns-clause-truth : goal.returns-clause-truth
returns-clause-truth c = facts_said

pub returns-clause-size : goal.returns-clause-size
returns-clause-size c = facts_counted
