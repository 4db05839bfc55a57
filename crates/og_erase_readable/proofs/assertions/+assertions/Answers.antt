use Rattle.std.proofs.Common.{◌≡◌, map, arith, sym, ap, ◌∙◌}
use Rattle.std.proofs.lemmas.List.{take_all}
use Rattle.og_parse.specs.Trees.{listed}
use Rattle.og_parse.specs.TreeOf.{assertion_of}
use Rattle.og_erase_readable.specs.Readable.{readable_assertion}
use Rattle.og_erase_readable.proofs.Trees.{list_readable, and_made, or_made}
use Rattle.og_erase_readable.proofs.assertions.+assertions.Goals as goal

pub assertion-returns-in_ok-assertions-in-And : goal.assertion-returns-in_ok-assertions-in-And
assertion-returns-in_ok-assertions-in-And t c =
    and_made c.args.a.now c.in-And.all c.deref-in-And.result.now c.in_ok-assertions-in-And.field-0 c.in-And.is c.deref-in-And.ensures.value c.in_ok-assertions-in-And.ensures

pub assertion-returns-in_ok-assertions-in-Or : goal.assertion-returns-in_ok-assertions-in-Or
assertion-returns-in_ok-assertions-in-Or t c =
    or_made c.args.a.now c.in-Or.all c.deref-in-Or.result.now c.in_ok-assertions-in-Or.field-0 c.in-Or.is c.deref-in-Or.ensures.value c.in_ok-assertions-in-Or.ensures

pub assertions-returns : goal.assertions-returns
assertions-returns t c =
    let all = c.args.all.now in
    let whole : map assertion_of c.loop-a.out.items ≡ map readable_assertion (map assertion_of all) =
    c.loop-a.invariant ∙ ap (λ l. map readable_assertion (map assertion_of l)) (take_all c.loop-a.a-index all (omega arith)) in
    ap listed whole ∙ sym (list_readable (map assertion_of all))
