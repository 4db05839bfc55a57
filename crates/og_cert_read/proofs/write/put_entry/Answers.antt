use Rattle.std.proofs.Common.{ap, sym, ◌∙◌}
use Rattle.og_cert_text.specs.Plain.{plain_cert}
use Rattle.og_cert_read.specs.Firsts.{found}
use Rattle.og_cert_read.specs.Shared.{cert_text}
use Rattle.og_cert_read.proofs.Firsts.{again_text, lines_are, noted}
use Rattle.og_cert_read.proofs.write.put_entry.Goals as goal

pub returns-in-Some-clause-text : goal.returns-in-Some-clause-text
returns-in-Some-clause-text c =
    let text = cert_text (plain_cert c.args.cert.now) in
    let lines = lines_are c.new-lines.result.items c.put_cert.new.text.items text c.new-lines.ensures.items c.in_ok-put_cert.ensures.ok in
    again_text c.args.text.now.items c.put_line.new.text.items c.put_again.new.text.items c.args.n c.in-Some.k (found text c.args.firsts.now) (plain_cert c.args.cert.now) c.in_ok-put_line.ensures
    (ap (λ t. found t c.args.firsts.now) (sym (c.as_slice.ensures.value ∙ lines)) ∙ sym c.get.ensures.value ∙ sym c.copied.ensures ∙ c.in-Some.is)
    (c.in_ok-put_again.ensures (plain_cert c.args.cert.now) (c.deref.ensures.value ∙ lines))

pub returns-clause-firsts : goal.returns-clause-firsts
returns-clause-firsts c =
    let text = cert_text (plain_cert c.args.cert.now) in
    let lines = lines_are c.new-lines.result.items c.put_cert.new.text.items text c.new-lines.ensures.items c.in_ok-put_cert.ensures.ok in
    noted c.put_cert.new.text c.args.n c.args.firsts.now c.insert.new.self text lines
    (ap (λ t. found t c.args.firsts.now) (sym (c.as_slice.ensures.value ∙ lines)) ∙ sym c.get.ensures.value ∙ sym c.copied.ensures ∙ c.in_default.is) c.in_ok-insert.ensures.updates
