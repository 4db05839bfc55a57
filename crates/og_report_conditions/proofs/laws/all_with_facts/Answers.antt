use Rattle.og_cond.specs.Conditions.{conditions}
use Rattle.og_report_conditions.proofs.Loops.{all_lines}
use Rattle.og_report_conditions.proofs.laws.all_with_facts.Goals as goal

pub returns : goal.returns
returns c = λ o source. all_lines o.names source 1 (conditions o)
