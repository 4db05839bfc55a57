use Rattle.std.proofs.Common.{Some, sym, ap, ◌∙◌}
use Rattle.std.specs.Prelude.{option_map}
use Rattle.std.proofs.lemmas.Result.{err_from_is_err_and}
use Rattle.og_linear.specs.declared.fault.FormFault.TheVariants as faults
use Rattle.og_subst.specs.Actions.{action_body}
use Rattle.og_linear.specs.Bounded.{MapValue}
use Rattle.og_subst.specs.Running.{nothing, run}
use Rattle.og_subst.specs.Subst.{forward}
use Rattle.og_subst.proofs.Moved.{forward_said}
use Rattle.og_subst.proofs.Running.{map_of_run}
use Rattle.og_subst.proofs.Mapping.{fails_from}
use Rattle.og_subst.proofs.action.Action.map.Goals as goal

pub returns-in_err-new-clause-answer : goal.returns-in_err-new-clause-answer
returns-in_err-new-clause-answer c =
    let p = err_from_is_err_and c.from_residual.result c.from_residual.ensures.1 in
    let body = action_body c.args.self.now in
    rw p.1 (fails_from (λ (m : MapValue). m) faults.TooLarge c.in_err-new.field-0.0 p.0 (run body nothing) (forward body) c.in_err-new.ensures p.2
    (λ none. sym (map_of_run body) ∙ ap (option_map (λ q. q.map)) none))

pub returns-clause-answer : goal.returns-clause-answer
returns-clause-answer c =
    let body = action_body c.args.self.now in
    sym (map_of_run body) ∙ ap (option_map (λ q. q.map)) c.in_ok-new.ensures ∙ ap Some (sym c.into_map.ensures)

pub returns-clause-value : goal.returns-clause-value
returns-clause-value c = λ s x. forward_said (action_body c.args.self.now) c.into_map.result s x (returns-clause-answer c)
