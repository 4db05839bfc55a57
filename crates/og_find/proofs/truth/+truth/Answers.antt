use Rattle.std.proofs.Common.{map, sym, ap, ◌∙◌}
use Rattle.og_facts.specs.Facts.{parts_of_list}
use Rattle.og_facts.specs.Truth.{fact_true, some_part_true, all_true_at}
use Rattle.og_facts.specs.Plain.{plain_fact}
use Rattle.og_facts.specs.Answer.{shown}
use Rattle.og_facts.proofs.Trees.{plain_split}
use Rattle.og_find.proofs.Turns.{some_at}
use Rattle.og_find.proofs.truth.+truth.Goals as goal

pub is_true-returns-in-Some : goal.is_true-returns-in-Some
is_true-returns-in-Some t c = λ yes.
    let s = c.args.values.now in
    ap (λ f. fact_true s (plain_fact f)) c.in-Split.is
    ∙ ap (fact_true s) (plain_split c.in-Split.parts)
    ∙ ap (λ l. some_part_true s (parts_of_list (map shown l))) (sym c.deref.ensures.value)
    ∙ c.some_true.ensures yes

pub some_true-returns-then-all_true : goal.some_true-returns-then-all_true
some_true-returns-then-all_true t c = λ yes.
    let s = c.args.values.now in
    some_at s c.args.parts.now c.loop-part.part-index c.part-item.result c.loop-part-test.true c.part-item.is
    (ap (λ l. all_true_at s (map plain_fact l)) (sym c.deref.ensures.value) ∙ c.all_true.ensures c.if-all_true.true)
