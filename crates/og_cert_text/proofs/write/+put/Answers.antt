use Rattle.std.proofs.Common.{◌≡◌, ◌∙◌, ◌++◌, ap, length, map, arith}
use Rattle.std.proofs.lemmas.Grind.{common_steps}
use Rattle.og_cert_text.specs.Tree.{cert_list}
use Rattle.og_cert_text.specs.Plain.{plain_cert, plain_finish, step_line}
use Rattle.og_cert_text.specs.Shallow.{cert_lines, certs_lines}
use Rattle.og_cert_text.specs.Listing.{lines_text}
use Rattle.og_cert_text.proofs.Writing.{both_put, finish_put, steps_text}
use Rattle.og_cert_text.proofs.write.+put.Goals as goal

pub put_lines-returns : goal.put_lines-returns
put_lines-returns t c =
    both_put c.put_finish.result c.args.text.now.items c.put_steps.new.text.items c.put_finish.new.text.items (lines_text (map step_line c.args.cert.now.steps.items)) (lines_text (cert_lines (plain_finish c.args.cert.now.finish))) _
    c.put_finish.ensures (c.in_ok-put_steps.ensures ∙ ap (λ s. c.args.text.now.items ++ lines_text (map step_line s)) c.deref.ensures.value) (steps_text c.args.cert.now)

pub put_finish-returns-after-loop-part : goal.put_finish-returns-after-loop-part
put_finish-returns-after-loop-part t c =
    let all : c.loop-part.text.items ≡ c.put_pair.new.text.items ++ lines_text (certs_lines (cert_list (map plain_cert c.deref-part-items.result.now))) = grind (arith, common_steps) in
    let count : c.len.result ≡ length c.in-Split.parts.items = omega (arith, c.len.ensures) in
    finish_put c.args.finish.now c.in-Split.fact c.len.result c.in-Split.parts c.deref-part-items.result.now c.args.text.now.items c.put_pair.new.text.items c.loop-part.text.items
    c.deref-part-items.ensures.value c.in-Split.is count c.in_ok-put_pair-in-Split.ensures all
