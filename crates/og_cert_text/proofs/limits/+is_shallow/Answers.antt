use Rattle.std.proofs.Common.{sym, arith}
use Rattle.og_cert_text.proofs.Plains.{split_shallow}
use Rattle.og_cert_text.proofs.limits.+is_shallow.Goals as goal

pub loop-part-init : goal.loop-part-init
loop-part-init t c = sym (split_shallow c.args.depth c.args.cert.now c.in-Split.field-0 c.in-Split.parts c.deref-part-items.result.now c.deref-part-items.ensures.value c.in-Split.is (omega arith))
