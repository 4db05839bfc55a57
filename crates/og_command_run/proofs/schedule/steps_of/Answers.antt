use Rattle.std.proofs.Common.{rules, ◌<◌, length, refl}
use Rattle.og_command_run.proofs.Numbers.{not_empty, no_schedule, too_long}
use Rattle.og_command_run.proofs.schedule.steps_of.Goals as goal

pub returns-in_default-clause-none : goal.returns-in_default-clause-none
returns-in_default-clause-none c = λ none.
    no_schedule c.args.word.now (not_empty c.args.word.now c.is_empty.result c.is_empty.ensures c.if-is_empty.false) (rw c.in_default.is at c.in_ok-steps.ensures.none refl)

pub returns-then-len-gt-STEPS-clause-none : goal.returns-then-len-gt-STEPS-clause-none
returns-then-len-gt-STEPS-clause-none c = λ none.
    let long : 1000000 < length c.in-Some.steps.items = search rules in
    too_long c.args.word.now c.in-Some.steps.items (not_empty c.args.word.now c.is_empty.result c.is_empty.ensures c.if-is_empty.false)
    (rw c.in-Some.is at c.in_ok-steps.ensures.only) long
