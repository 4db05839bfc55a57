-- The map and the values of a prepared action.
use Rattle.std.proofs.Common.{◌≡◌, Option, Some, None, option_map}
use Rattle.og_subst.specs.Subst.{forward, values}
use Rattle.og_subst.specs.Actions.{action_tree}
use Rattle.og_subst.specs.Prepared.{Prepared}
use Rattle.og_subst.specs.declared.action.Action.{Action}
use Rattle.og_cond.specs.Condition.{assignments}
use Rattle.og_facts.specs.Answer.{IsPrepared}

pub prepared_parts : (action : Option Action) (p : Prepared) → IsPrepared action p → (forward (assignments (option_map action_tree action)) ≡ Some p.map) × (values (assignments (option_map action_tree action)) ≡ Some p.values)
prepared_parts None p h = absurd h
prepared_parts (Some action) p h = h
