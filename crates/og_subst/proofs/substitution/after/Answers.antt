use Rattle.std.proofs.Common.{◌≡◌, ℤ, List}
use Rattle.og_linear.specs.declared.fault.FormFault.TheVariants as faults
use Rattle.og_typed.specs.Plain.{formula}
use Rattle.og_typed.specs.Truth.{truth}
use Rattle.og_typed.specs.Machine.{act}
use Rattle.og_subst.specs.Actions.{action_body}
use Rattle.og_subst.specs.Subst.{after}
use Rattle.og_subst.proofs.Moved.{after_said}
use Rattle.og_subst.proofs.Running.{on_answer}
use Rattle.og_subst.proofs.substitution.after.Goals as goal

pub returns-clause-truth : goal.returns-clause-truth
returns-clause-truth c =
    let body = action_body c.args.action.now in
    let a = formula c.args.a.now in
    let m = c.in_ok-forms.forms in
    on_answer formula faults.TooLarge c.mapped.result (after m a) (λ b. (s : List ℤ) → truth b s ≡ truth a (act body s)) c.mapped.ensures
    (λ b e s. after_said body m a b s c.in_ok-forms.ensures.answer e)
