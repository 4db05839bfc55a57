-- Actions against the assertions of several processes.
use Rattle.std.proofs.Common.{◌≡◌, ℕ, List, ◌++◌, Bool}
use Rattle.std.proofs.lemmas.Grind.{flat_map-append}
use Rattle.og_typed.specs.Syntax.{Formula, Simple}
use Rattle.og_cond.specs.Conditions.{Action}
use Rattle.og_cond.specs.Crossing.{Side, pairs_of, action_crossings}

pub action_crossings_append : (test : List Simple → Formula → Bool) (n : ℕ) (action : Action) (earlier later : List Side) → action_crossings test n action (earlier ++ later) ≡ action_crossings test n action earlier ++ action_crossings test n action later
action_crossings_append test n action earlier later = flat_map-append (λ side. pairs_of test n action side.notes) earlier later
