use Rattle.og_parse.specs.Limits.{level_limit, statement_limit}
use Rattle.og_parse.proofs.Only.{no_fault}
use Rattle.og_parse.proofs.asking.is_whole.Goals as goal

pub returns-in-Err-Fault : goal.returns-in-Err-Fault
returns-in-Err-Fault c = λ w. no_fault level_limit statement_limit c.args.tokens.now w.outline c.in-Err-Fault.field-0-0 w.is w.few (rw c.in-Err-Fault.field-0-is at c.in-Err-Fault.ensures)
