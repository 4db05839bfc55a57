use Rattle.std.proofs.Common.{rules}
use Rattle.og_cert_text.proofs.Above.{least_none, least_some}
use Rattle.og_cert_text.proofs.file.CertFile.least_above.Goals as goal

pub returns-in_err-number : goal.returns-in_err-number
returns-in_err-number c =
    rw c.from_residual.ensures (least_none c.args.n c.args.self.now.numbers.entries c.range.result c.args.self.now.certs.items (c.range.ensures.between (search rules)) c.in_err-number.ensures.steps.0)

pub returns : goal.returns
returns c =
    least_some c.args.n c.in_ok-number.number.now c.in_ok-number.field-0-1.now c.args.self.now.numbers.entries c.range.result c.next.new.self c.args.self.now.certs.items
    c.range.ensures.ordered (c.range.ensures.between (search rules)) c.in_ok-number.ensures.steps
