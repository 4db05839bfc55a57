use Rattle.std.proofs.Common.{sym}
use Rattle.std.proofs.lemmas.Bool.{eq-eqb}
use Rattle.og_text.proofs.Found.{white_front, comment_front}
use Rattle.og_text.proofs.front.front_of.Goals as goal

pub returns-then-is_white : goal.returns-then-is_white
returns-then-is_white c = rw c.white_len.ensures (white_front c.args.text.now c.requires (sym c.if-is_white.ensures))

pub returns-then-first-eq35 : goal.returns-then-first-eq35
returns-then-first-eq35 c = rw c.line_len.ensures (comment_front c.args.text.now c.requires (eq-eqb _ 35 c.if-first-eq35.true))
