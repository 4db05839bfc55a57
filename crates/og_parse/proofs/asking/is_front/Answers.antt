use Rattle.og_parse.specs.TreeOf.{tree_of}
use Rattle.og_parse.proofs.Fronts.{whole_front, by_fault}
use Rattle.og_parse.proofs.asking.is_front.Goals as goal

pub returns-in-Ok : goal.returns-in-Ok
returns-in-Ok c = whole_front c.args.tokens.now (tree_of c.in-Ok.raw) c.in-Ok.ensures.0 c.in-Ok.ensures.1

pub returns-in-Err-Fault : goal.returns-in-Err-Fault
returns-in-Err-Fault c = rw c.is_at_end.ensures (by_fault c.args.tokens.now c.in-Err-Fault.fault c.requires (rw c.in-Err-Fault.field-0-is at c.in-Err-Fault.ensures))
