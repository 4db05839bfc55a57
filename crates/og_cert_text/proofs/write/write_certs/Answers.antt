use Rattle.std.proofs.Common.{◌≡◌, ◌∷◌, ◌++◌, ◌∙◌, map, ap, sym, rules}
use Rattle.og_cert_text.specs.Rising.{above}
use Rattle.og_cert_text.specs.Shown.{shown}
use Rattle.og_cert_text.specs.Text.{One, version_text}
use Rattle.og_cert_text.proofs.Above.{above_zero}
use Rattle.og_cert_text.specs.Stored.{placed}
use Rattle.og_cert_text.specs.Lines.{ForCondition, line_text}
use Rattle.og_cert_text.specs.Shallow.{cert_lines}
use Rattle.og_cert_text.specs.Listing.{file_text}
use Rattle.og_cert_text.proofs.Writing.{entries_text, text_of, lines_at, entry_lines, put_next}
use Rattle.og_cert_text.proofs.write.write_certs.Goals as goal

pub loop-n-init : goal.loop-n-init
loop-n-init c =
    let head : c.in_ok-text.text.items ≡ version_text One = search rules in
    ap (λ t. t ++ entries_text (above 0 (shown c.args.file.now))) head
    ∙ ap (λ es. version_text One ++ entries_text es) (above_zero c.args.file.now.numbers.entries c.args.file.now.certs.items c.args.file.now.stored)

pub loop-n-preserved : goal.loop-n-preserved
loop-n-preserved c =
    let es = shown c.args.file.now in
    let certs = c.args.file.now.certs.items in
    let n = c.in-Some.n in
    let place = c.in-Some.place in
    let cert = placed certs place in
    let t0 = c.loop-n.text.items in
    let made = c.in_ok-all.ensures.lines ∙ ap (map text_of) c.certs.ensures in
    let lines = c.deref.ensures.value ∙ ap (λ v. v.items) c.index.ensures ∙ lines_at certs c.in_ok-all.all.items place c.index.result.now made c.in-Some.ensures.within in
    let e = c.in_ok-put_entry.ensures ∙ ap (λ ls. t0 ++ (line_text (ForCondition n) ++ 10 ∷ ls)) lines ∙ ap (λ t. t0 ++ t) (sym (entry_lines n (cert_lines cert))) in
    put_next es c.loop-n.last n cert t0 c.put_entry.new.text.items (file_text es) c.in-Some.ensures.next e c.loop-n.invariant
