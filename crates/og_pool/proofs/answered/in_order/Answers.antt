use Rattle.std.proofs.Common.{◌≡◌, ◌+◌, ◌-◌, ◌≤◌, subst, arith}
use Rattle.og_pool.specs.TaskAnswers.{IsFilled}
use Rattle.og_pool.proofs.Slots.{all_filled, answers_of}
use Rattle.og_pool.proofs.answered.in_order.Goals as goal

pub unwrapped-requires : goal.unwrapped-requires
unwrapped-requires g c = all_filled c.in_ok-slots.slots.items (λ i below.
    let slots = c.in_ok-slots.ensures in
    let len = slots.len in
    let within : i + 1 ≤ c.args.count = omega (arith, below, len) in
    let back : i + 1 - 1 ≡ i = omega arith in
    subst (IsFilled c.in_ok-slots.slots.items) back (slots.filled (i + 1) (omega arith) within (c.requires.all (i + 1) (omega arith) within)))

pub returns : goal.returns
returns g c = answers_of c.args.count (g.N.Numbered.may_answer c.args.tasks.now) c.in_ok-slots.slots.items c.in_ok-answers.answers.items
    c.in_ok-slots.ensures.len c.in_ok-slots.ensures.right c.in_ok-answers.ensures
