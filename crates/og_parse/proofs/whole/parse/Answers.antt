use Rattle.og_parse.specs.Limits.{level_limit, statement_limit}
use Rattle.og_parse.proofs.Parsing.{answer_ok, answer_err}
use Rattle.og_parse.proofs.whole.parse.Goals as goal

pub returns-in-Some : goal.returns-in-Some
unfolding statement_limit
returns-in-Some c = c.parse_excess.ensures c.args.tokens.now c.in-Some.ensures

pub returns-in-Ok : goal.returns-in-Ok
unfolding level_limit statement_limit
returns-in-Ok c = answer_ok level_limit statement_limit c.args.tokens.now c.in_default.ensures c.in-Ok.raw c.whole.new.cursor (rw c.new-cursor.ensures at c.in-Ok.ensures)

pub returns-in-Err : goal.returns-in-Err
unfolding level_limit statement_limit
returns-in-Err c = rw (c.error.ensures, c.rest.ensures) (answer_err level_limit statement_limit c.args.tokens.now c.in_default.ensures c.in-Err.refusal c.whole.new.cursor (rw c.new-cursor.ensures at c.in-Err.ensures))
