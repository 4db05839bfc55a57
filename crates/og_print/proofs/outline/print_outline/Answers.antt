use Rattle.std.proofs.Common.{rules}
use Rattle.og_parse.specs.TreeOf.{tree_of}
use Rattle.og_print.proofs.ReadBack.{reads_back}
use Rattle.og_print.proofs.outline.print_outline.Goals as goal

pub returns-clause-again : goal.returns-clause-again
returns-clause-again c = λ levels statements read short. reads_back levels statements (tree_of c.args.raw.now) c.put_outline.new.text.items (search rules) read short
