use Rattle.std.proofs.Common.{sym, subst, subst₂}
use Rattle.og_typed.specs.Plain.{formula}
use Rattle.og_completion.specs.Completes.{Implies}
use Rattle.og_completion.proofs.Trees.{stronger_and, stronger_one}
use Rattle.og_completion.proofs.assertions.is_stronger.Goals as goal

pub returns-in-And-And : goal.returns-in-And-And
returns-in-And-And c = λ yes.
    let found = rw (c.deref.ensures.value, c.deref-in-And-And.ensures.value) at (c.begins_with.ensures yes) in
    subst₂ (λ new old. Implies (formula new) (formula old)) (sym c.in-And-And.is-0) (sym c.in-And-And.is-1) (stronger_and c.in-And-And.all c.in-And-And.first found)

pub returns-in-And-default : goal.returns-in-And-default
returns-in-And-default c = λ yes.
    let found = rw c.deref-in-And-default.ensures.value at (c.begins_with_one.ensures yes) in
    subst (λ new. Implies (formula new) (formula c.args.old.now)) (sym c.in-And-default.is-0) (stronger_one c.in-And-default.all c.args.old.now found)
