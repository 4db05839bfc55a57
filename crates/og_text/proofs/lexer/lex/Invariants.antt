use Rattle.std.proofs.Common.{◌-◌, length}
use Rattle.og_text.proofs.Cuts.{SoFar}
use Rattle.og_text.proofs.lexer.lex.Given as goal

abbrev pub invariant-cut : goal.invariant-cut
invariant-cut l = SoFar l.text l.at l.tokens.items

abbrev pub decreases-cut : goal.decreases-cut
decreases-cut l = length l.text - l.at
