use Rattle.std.proofs.Common.{◌≡◌, ℤ, List, map}
use Rattle.og_linear.specs.Linear.{val}
use Rattle.og_subst.specs.Actions.{action_body, assigned_values}
use Rattle.og_subst.specs.Subst.{values}
use Rattle.og_subst.proofs.Moved.{values_said}
use Rattle.og_subst.specs.Running.{nothing, run}
use Rattle.og_linear.specs.declared.fault.FormFault.TheVariants as faults
use Rattle.og_subst.proofs.Running.{part_of_answer, on_answer, map_of_run, values_of_run}
use Rattle.og_subst.proofs.action.Action.prepare.Goals as goal

pub returns-clause-map : goal.returns-clause-map
returns-clause-map c =
    part_of_answer (λ p. p.map) faults.TooLarge c.new.result (run (action_body c.args.self.now) nothing) _ c.new.ensures (map_of_run (action_body c.args.self.now))

pub returns-clause-values : goal.returns-clause-values
returns-clause-values c =
    part_of_answer (λ p. p.values) faults.TooLarge c.new.result (run (action_body c.args.self.now) nothing) _ c.new.ensures (values_of_run (action_body c.args.self.now))

pub returns-clause-value : goal.returns-clause-value
returns-clause-value c =
    on_answer (λ p. p.values) faults.TooLarge c.new.result (values (action_body c.args.self.now)) (λ vs. (s : List ℤ) → map (λ v. val v s) vs ≡ assigned_values (action_body c.args.self.now) s)
    (part_of_answer (λ p. p.values) faults.TooLarge c.new.result (run (action_body c.args.self.now) nothing) _ c.new.ensures (values_of_run (action_body c.args.self.now)))
    (λ vs e s. values_said (action_body c.args.self.now) vs s e)
