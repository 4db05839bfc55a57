use Rattle.std.proofs.Common.{drop, subst}
use Rattle.og_text.specs.Fronts.{IsFront}
use Rattle.og_text.proofs.Cuts.{past_gap, past_lexeme, front_rest}
use Rattle.og_text.proofs.lexer.lex.Goals as goal

pub cut-preserved-in-Gap : goal.cut-preserved-in-Gap
cut-preserved-in-Gap c =
    past_gap c.args.text.now c.cut.at c.in-Gap.len c.cut.tokens.items c.cut.invariant (subst (IsFront (drop c.cut.at c.args.text.now)) c.in-Gap.is (front_rest c.args.text.now c.cut.at c.in_ok-len.field-0 c.in_ok-len.ensures))

pub cut-preserved : goal.cut-preserved
cut-preserved c =
    rw c.in_ok-push-in-Lexeme.ensures.items (past_lexeme c.args.text.now c.cut.at c.in-Lexeme.len c.cut.tokens.items c.in-Lexeme.kind c.cut.invariant (subst (IsFront (drop c.cut.at c.args.text.now)) c.in-Lexeme.is (front_rest c.args.text.now c.cut.at c.in_ok-len.field-0 c.in_ok-len.ensures)))
