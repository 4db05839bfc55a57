use Rattle.og_search_rows.proofs.VariableBits.{union_has}
use Rattle.og_search_rows.proofs.variables.Variables.union.Goals as goal

pub returns : goal.returns
returns c = union_has c.args.self.bits c.args.other.bits
