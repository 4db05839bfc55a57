use Rattle.std.proofs.Common.{◌≡◌, length, sym, ap, ◌∙◌, arith}
use Rattle.og_typed.specs.Plain.{formula}
use Rattle.og_completion.proofs.Trees.{begins_end, same_and, same_or}
use Rattle.og_completion.proofs.assertions.+equality.Goals as goal

pub begins_with-returns : goal.begins_with-returns
begins_with-returns t c = λ _. begins_end c.args.all.now c.args.first.now c.loop-i.i (omega arith) c.loop-i.invariant

pub same_assertion-returns-then-len : goal.same_assertion-returns-then-len
same_assertion-returns-then-len t c = λ yes.
    let v = c.in-And-And.all in
    let w = c.in-And-And.others in
    let long : length v.items ≡ length w.items = omega (arith, c.if-len.true, c.len.ensures, c.len-in-And-And.ensures, v.ok.0, w.ok.0) in
    let found = rw (c.deref-then-len.ensures.value, c.deref-then-len-2.ensures.value) at (c.begins_with.ensures yes) in
    ap formula c.in-And-And.is-0 ∙ same_and v w long found ∙ sym (ap formula c.in-And-And.is-1)

pub same_assertion-returns-then-len-2 : goal.same_assertion-returns-then-len-2
same_assertion-returns-then-len-2 t c = λ yes.
    let v = c.in-Or-Or.all in
    let w = c.in-Or-Or.others in
    let long : length v.items ≡ length w.items = omega (arith, c.if-len-2.true, c.len-in-Or-Or.ensures, c.len-in-Or-Or-2.ensures, v.ok.0, w.ok.0) in
    let found = rw (c.deref-then-len-2-2.ensures.value, c.deref-then-len-2-3.ensures.value) at (c.begins_with-then-len-2.ensures yes) in
    ap formula c.in-Or-Or.is-0 ∙ same_or v w long found ∙ sym (ap formula c.in-Or-Or.is-1)
