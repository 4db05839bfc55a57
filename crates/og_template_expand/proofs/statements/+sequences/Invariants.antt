use Rattle.std.proofs.Common.{◌≡◌, map, drop}
use Rattle.og_template_expand.specs.Answer.{gathered}
use Rattle.og_template_expand.specs.Put.{front_of, onto}
use Rattle.og_template_expand.specs.Ranges.{instance_of}
use Rattle.og_template_expand.specs.Statements as meaning
use Rattle.og_template_expand.specs.Scoped.{scope_of}
use Rattle.og_template_expand.specs.TreeOf.{binder_of, step_of, steps_then}
use Rattle.og_template_expand.proofs.statements.+sequences.Given as goal

abbrev pub invariant-put_repeated-loop-value : goal.invariant-put_repeated-loop-value
invariant-put_repeated-loop-value l =
    let each = instance_of (scope_of l.scope) (binder_of l.binder) (λ s. meaning.steps_of s (steps_then (map step_of l.steps))) in
    onto (front_of l.prefix) (gathered each (drop l.value-index l.value-items)) ≡ onto (front_of l.fn.prefix) (gathered each l.value-items)

abbrev pub invariant-put_steps-loop-step : goal.invariant-put_steps-loop-step
invariant-put_steps-loop-step l =
    onto (front_of l.prefix) (meaning.steps_of (scope_of l.scope) (steps_then (map step_of (drop l.step-index l.steps))))
    ≡ onto (front_of l.fn.prefix) (meaning.steps_of (scope_of l.scope) (steps_then (map step_of l.steps)))
