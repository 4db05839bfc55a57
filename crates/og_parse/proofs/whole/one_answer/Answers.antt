use Rattle.og_parse.proofs.Only.{no_fault, one_fault}
use Rattle.og_parse.proofs.whole.one_answer.Goals as goal

pub returns-clause-outline : goal.returns-clause-outline
returns-clause-outline c = no_fault

pub returns-clause-fault : goal.returns-clause-fault
returns-clause-fault c = one_fault
