use Rattle.std.proofs.Common.{◌∙◌}
use Rattle.og_facts.proofs.Items.{values_turn}
use Rattle.og_facts.proofs.goals.parts_of_values.Goals as goal

pub loop-value-preserved : goal.loop-value-preserved
loop-value-preserved c =
    values_turn c.loop-value.parts.items c.push.new.self.items c.push-in-loop-value.new.self.items c.in_ok-part_above.field-0 c.in_ok-part_above-2.field-0
    c.args.values.now c.loop-value.value-index c.value-item.result c.in_ok-below.below c.in_ok-above.above
    c.loop-value-test.true c.value-item.is c.in_ok-push.ensures.items c.in_ok-push-2.ensures.items c.in_ok-below.ensures c.in_ok-above.ensures
    c.in_ok-part_above.ensures c.in_ok-part_above-2.ensures
    ∙ c.loop-value.invariant
