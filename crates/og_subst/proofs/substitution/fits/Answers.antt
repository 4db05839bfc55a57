use Rattle.std.proofs.Common.{Some, sym, ap, ◌∙◌}
use Rattle.std.specs.Prelude.{option_and_then, option_map}
use Rattle.og_typed.specs.Syntax.{And}
use Rattle.og_typed.specs.Plain.{formula}
use Rattle.og_typed.proofs.Lists.{formula_and}
use Rattle.og_typed.specs.declared.assertion.Assert.TheViews as its
use Rattle.og_subst.specs.Actions.{action_body}
use Rattle.og_subst.specs.Subst.{ranges}
use Rattle.og_subst.proofs.Moved.{fits_said}
use Rattle.og_subst.proofs.substitution.fits.Goals as goal

pub returns-clause-answer : goal.returns-clause-answer
returns-clause-answer c =
    ap (option_and_then (λ vs. option_map And (ranges vs))) c.in_ok-prepared.ensures.values
    ∙ ap (λ vs. option_map And (ranges vs)) (sym c.values.ensures)
    ∙ ap (option_map And) c.in_ok-ranges.ensures
    ∙ ap Some (sym (formula_and c.in_ok-ranges.field-0))

pub returns-clause-truth : goal.returns-clause-truth
returns-clause-truth c =
    λ s. fits_said (action_body c.args.action.now) (formula (its.And c.in_ok-ranges.field-0)) s (returns-clause-answer c)
