use Rattle.og_parse.specs.TreeOf.{tree_of}
use Rattle.og_parse.specs.Limits.{level_limit, statement_limit}
use Rattle.og_parse.proofs.Parsing.{excess_ok, excess_err}
use Rattle.og_parse.proofs.whole.parse_excess.Goals as goal

pub returns-in-Ok : goal.returns-in-Ok
unfolding level_limit
returns-in-Ok c = λ tokens x. excess_ok level_limit statement_limit tokens c.args.front.now c.args.span x (tree_of c.in-Ok.raw) c.whole.new.cursor (rw c.new-cursor.ensures at c.in-Ok.ensures)

pub returns-in-Err : goal.returns-in-Err
unfolding level_limit
returns-in-Err c = λ tokens x. rw (c.excess_error.ensures, c.rest.ensures) (excess_err level_limit statement_limit tokens c.args.front.now c.args.span x c.in-Err.refusal c.whole.new.cursor (rw c.new-cursor.ensures at c.in-Err.ensures))
