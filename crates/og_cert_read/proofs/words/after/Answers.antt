use Rattle.std.proofs.Common.{arith}
use Rattle.og_cert_read.proofs.Split.{after_short}
use Rattle.og_cert_read.proofs.words.after.Goals as goal

pub returns-in_default : goal.returns-in_default
returns-in_default c = after_short c.args.front.now c.loop-p.rest.now c.args.text.now c.loop-p.p-index (omega arith) (omega arith) c.loop-p.invariant
