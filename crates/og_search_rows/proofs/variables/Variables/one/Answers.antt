use Rattle.og_search_rows.proofs.VariableBits.{one_has}
use Rattle.og_search_rows.proofs.variables.Variables.one.Goals as goal

pub returns : goal.returns
returns c = one_has c.args.var
