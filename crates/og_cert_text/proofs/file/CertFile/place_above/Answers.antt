use Rattle.std.proofs.Common.{refl, rules}
use Rattle.og_cert_text.specs.Stored.{placed}
use Rattle.og_cert_text.proofs.Above.{entry_none, entry_some, entry_place}
use Rattle.og_cert_text.proofs.file.CertFile.place_above.Goals as goal

pub returns-in_err-number-clause-next : goal.returns-in_err-number-clause-next
returns-in_err-number-clause-next c =
    rw c.from_residual.ensures (entry_none c.args.n c.args.self.now.numbers.entries c.range.result c.args.self.now.certs.items (c.range.ensures.between (search rules)) c.in_err-number.ensures.steps.0)

pub returns-clause-next : goal.returns-clause-next
returns-clause-next c =
    let ns = c.args.self.now.numbers.entries in
    let cs = c.args.self.now.certs.items in
    entry_some c.args.n c.in_ok-number.number.now c.in_ok-number.place.now ns c.range.result c.next.new.self cs (placed cs c.in_ok-number.place.now) c.range.ensures.ordered
    (c.range.ensures.between (search rules)) c.in_ok-number.ensures.steps refl

pub returns-clause-within : goal.returns-clause-within
returns-clause-within c =
    entry_place c.args.n c.in_ok-number.number.now c.in_ok-number.place.now c.args.self.now.numbers.entries c.range.result c.next.new.self c.args.self.now.certs.items c.args.self.now.stored
    (c.range.ensures.between (search rules)) c.in_ok-number.ensures.steps
