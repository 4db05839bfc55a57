use Rattle.std.proofs.Common.{◌<◌, ◌≡◌, ◌+◌, length, get_or, arith, rules}
use Rattle.og_cert_text.proofs.Writing.{one_made}
use Rattle.og_cert_text.proofs.write.all_lines.Goals as goal

pub loop-cert-preserved : goal.loop-cert-preserved
loop-cert-preserved c =
    let certs = c.args.certs.now in
    let i = c.loop-cert.cert-index in
    let cert = c.cert-item.result in
    let below : i < length certs = search rules in
    let is : cert ≡ get_or certs i cert = search rules in
    let more : length c.push.new.self.items ≡ i + 1 = search rules in record {
      lines = one_made certs c.loop-cert.all.items c.push.new.self.items c.in_ok-lines_of.field-0 i cert below is c.in_ok-lines_of.ensures c.in_ok-push.ensures.items c.loop-cert.invariant.lines;
      len = more;
    }
