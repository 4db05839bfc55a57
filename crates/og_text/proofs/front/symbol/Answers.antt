use Rattle.std.proofs.Common.{sym, arith}
use Rattle.og_text.proofs.Symbols.{pair_front, single_front}
use Rattle.og_text.proofs.front.symbol.Goals as goal
use Rattle.og_text.proofs.front.symbol.Goals.{in_default, in-len2-up+in_default-pair}

pub returns-in-Some : goal.returns-in-Some
returns-in-Some c = pair_front c.args.text.now c.in-Some.kind (omega arith) c.requires.other (sym c.in-Some.ensures)

pub returns-in-Some-single : goal.returns-in-Some-single
returns-in-Some-single c = single_front c.args.text.now c.in-Some-single.kind (omega arith) c.requires.other (λ two. elim c.if-text-lt2.branch [ in_default w ↦ absurd (omega arith) | in-len2-up+in_default-pair w ↦ sym w.in_default-pair.ensures ]) (sym c.in-Some-single.ensures)
