-- The variables that the map of an action names.
use Rattle.std.specs.Prelude.{◌≡◌, ℕ, true, Option, option_map}
use Rattle.og_linear.specs.Bounded.{MapValue, names}
use Rattle.og_subst.specs.Actions.{action_tree, assigns}
use Rattle.og_subst.specs.declared.action.Action.{Action}
use Rattle.og_cond.specs.Condition.{assignments}

-- the action assigns each of them
abbrev pub AreAssigned : MapValue → Option Action → Type 0
AreAssigned m action = (x : ℕ) → names m x ≡ true → assigns x (assignments (option_map action_tree action)) ≡ true
