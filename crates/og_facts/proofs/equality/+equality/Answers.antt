use Rattle.std.proofs.Common.{◌≡◌, ◌<◌, length, map, rules, sym, ap, ◌∙◌, arith}
use Rattle.std.proofs.lemmas.Bool.{false≢true}
use Rattle.std.proofs.lemmas.List.{take_all}
use Rattle.og_subst.proofs.Equal.{same_at}
use Rattle.og_facts.specs.Answer.{shown}
use Rattle.og_facts.specs.Plain.{plain_fact}
use Rattle.og_facts.proofs.Same.{same_split, same_parts, same_length}
use Rattle.og_facts.proofs.equality.+equality.Goals as goal

pub same_fact-returns-then-len : goal.same_fact-returns-then-len
same_fact-returns-then-len t c = (
  λ e. absurd (false≢true e),
  λ e. let len = same_length c.in-Split-Split.parts c.in-Split-Split.others (sym (ap plain_fact c.in-Split-Split.is-0) ∙ e ∙ ap plain_fact c.in-Split-Split.is-1) in
      absurd (omega (arith, len, c.len.ensures, c.len-2.ensures, c.if-len.true)),
)

pub same_fact-returns-then-not-same_facts : goal.same_fact-returns-then-not-same_facts
same_fact-returns-then-not-same_facts t c =
    let v = c.in-Split-Split.parts in
    let w = c.in-Split-Split.others in
    let long : length v.items ≡ length w.items = omega (arith, c.if-len.false, c.len.ensures, c.len-2.ensures, v.ok.0, w.ok.0) in
    let below : c.loop-i.i < length v.items = omega (arith, c.loop-i-test.true, c.len-i-end.ensures, v.ok.0) in
    let parts = rw (c.deref.ensures.value, c.deref-in-loop-i.ensures.value) at c.same_facts.ensures in (
      λ e. absurd (false≢true e),
      λ e. sym c.if-not-same_facts.true
          ∙ parts.1 (same_at shown v.items w.items c.loop-i.i c.index.result.now c.index-in-loop-i.result.now below long c.index.ensures c.index-in-loop-i.ensures
          (same_parts v w (sym (ap plain_fact c.in-Split-Split.is-0) ∙ e ∙ ap plain_fact c.in-Split-Split.is-1))),
    )

pub same_fact-returns : goal.same_fact-returns
same_fact-returns t c =
    let v = c.in-Split-Split.parts in
    let w = c.in-Split-Split.others in
    let long : length v.items ≡ length w.items = omega (arith, c.if-len.false, c.len.ensures, c.len-2.ensures, v.ok.0, w.ok.0) in
    let all = take_all c.loop-i.i v.items (omega (arith, c.loop-i-test.false, c.len-i-end.ensures, v.ok.0)) in
    let others = take_all c.loop-i.i w.items (omega (arith, c.loop-i-test.false, c.len-i-end.ensures, v.ok.0, long)) in
    let same : map shown v.items ≡ map shown w.items = sym (ap (map shown) all) ∙ c.loop-i.invariant ∙ ap (map shown) others in (
      λ _. ap plain_fact c.in-Split-Split.is-0 ∙ same_split v w same ∙ sym (ap plain_fact c.in-Split-Split.is-1),
      λ _. search rules,
    )

pub same_facts-returns-then-not-same_fact : goal.same_facts-returns-then-not-same_fact
same_facts-returns-then-not-same_fact t c =
    let long : length c.args.a.now ≡ length c.args.b.now = search rules in (
      λ e. absurd (false≢true e),
      λ e. sym c.if-not-same_fact.true ∙ c.same_fact.ensures.1 (same_at plain_fact c.args.a.now c.args.b.now c.loop-i.i c.index-a-i.result c.index-b-i.result c.loop-i-test.true long c.index-a-i.is c.index-b-i.is e),
    )
