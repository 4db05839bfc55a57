use Rattle.std.proofs.Common.{◌≡◌, length, map, rules, arith, sym, ap, ◌∙◌}
use Rattle.std.proofs.lemmas.List.{take_all}
use Rattle.og_parse.specs.Trees.{listed}
use Rattle.og_parse.specs.TreeOf.{assertion_of}
use Rattle.og_typed.specs.declared.assertion.Assert.TheViews.{sized-And, sized-Or}
use Rattle.og_typed.specs.Plain.{formula}
use Rattle.og_typed.specs.Rule.{is_usable_form}
use Rattle.og_erase.specs.Collected as collected
use Rattle.og_erase.proofs.Trees.{list_assertions, and_usable, or_usable, and_made, or_made}
use Rattle.og_erase.proofs.assertions.+assertions.Goals as goal

pub assertion-assertions-requires : goal.assertion-assertions-requires
assertion-assertions-requires t c =
    (search (rules, sized-And, c.in-And.is, c.decreases), and_usable (is_usable_form (length c.args.names.now)) c.args.a.now c.in-And.all c.deref-in-And.result.now c.in-And.is c.deref-in-And.ensures.value c.requires)

pub assertion-assertions-requires-in-Or : goal.assertion-assertions-requires-in-Or
assertion-assertions-requires-in-Or t c =
    (search (rules, sized-Or, c.in-Or.is, c.decreases), or_usable (is_usable_form (length c.args.names.now)) c.args.a.now c.in-Or.all c.deref-in-Or.result.now c.in-Or.is c.deref-in-Or.ensures.value c.requires)

pub assertion-returns-in_ok-assertions-in-And : goal.assertion-returns-in_ok-assertions-in-And
assertion-returns-in_ok-assertions-in-And t c =
    and_made c.args.names.now c.args.a.now c.in-And.all c.deref-in-And.result.now c.in_ok-assertions-in-And.field-0 c.in-And.is c.deref-in-And.ensures.value c.in_ok-assertions-in-And.ensures

pub assertion-returns-in_ok-assertions-in-Or : goal.assertion-returns-in_ok-assertions-in-Or
assertion-returns-in_ok-assertions-in-Or t c =
    or_made c.args.names.now c.args.a.now c.in-Or.all c.deref-in-Or.result.now c.in_ok-assertions-in-Or.field-0 c.in-Or.is c.deref-in-Or.ensures.value c.in_ok-assertions-in-Or.ensures

pub assertions-returns : goal.assertions-returns
assertions-returns t c =
    let names = c.args.names.now in
    let all = c.args.all.now in
    let whole : map assertion_of c.loop-a.out.items ≡ map (collected.assertion names) (map formula all) =
    c.loop-a.invariant.made ∙ ap (λ l. map (collected.assertion names) (map formula l)) (take_all c.loop-a.a-index all (omega arith)) in
    ap listed whole ∙ sym (list_assertions names (map formula all))
