use Rattle.og_parse.proofs.Parsing.{one_outline}
use Rattle.og_parse.proofs.whole.one_tree.Goals as goal

pub returns : goal.returns
returns c = one_outline
