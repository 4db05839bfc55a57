use Rattle.std.proofs.Common.{◌≡◌, rules}
use Rattle.og_cert_text.specs.Plain.{plain_cert}
use Rattle.og_cert_text.specs.Shown.{shown}
use Rattle.og_cert_text.specs.Text.{Two, version_text}
use Rattle.og_cert_text.proofs.Above.{above_zero}
use Rattle.og_cert_read.proofs.SharedSoFar.{so_far_begins, so_far_goes}
use Rattle.og_cert_read.proofs.write.write_certs_2.Goals as goal

pub loop-n-init : goal.loop-n-init
loop-n-init c =
    let head : c.in_ok-text.text.items ≡ version_text Two = search rules in
    so_far_begins c.in_ok-text.text.items c.new-firsts.result (shown c.args.file.now) head c.new-firsts.ensures.empty (above_zero c.args.file.now.numbers.entries c.args.file.now.certs.items c.args.file.now.stored)

pub loop-n-preserved : goal.loop-n-preserved
loop-n-preserved c =
    so_far_goes c.loop-n.text.items c.put_entry.new.text.items c.loop-n.firsts c.put_entry.new.firsts c.loop-n.last c.in-Some.n (plain_cert c.in-Some.cert.now) (shown c.args.file.now)
    c.in-Some.ensures c.in_ok-put_entry.ensures.text c.in_ok-put_entry.ensures.firsts c.loop-n.invariant
