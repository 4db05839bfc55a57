use Rattle.og_parse.proofs.CountedTree.{outline_counted}
use Rattle.og_parse.proofs.whole.one_count.Goals as goal

pub returns : goal.returns
returns c = outline_counted
