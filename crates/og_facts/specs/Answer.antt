-- What a call on facts may answer.
use Rattle.std.specs.Prelude.{◌≡◌, ◌≤◌, List, map, Option, Some, None, option_map, ◌++◌, Result, Ok, Err, Vec}
use Rattle.std.specs.Global.{Global}
use Rattle.og_subst.specs.Actions.{action_body}
use Rattle.og_subst.specs.Subst.{forward, values}
use Rattle.og_subst.specs.Prepared.{Prepared}
use Rattle.og_subst.specs.declared.action.Action.{Action}
use Rattle.og_cond.specs.Condition.{Condition}
use Rattle.og_facts.specs.declared.fact.Fact as its
use Rattle.og_facts.specs.declared.fault.FactsError.{FactsError}
use Rattle.og_facts.specs.declared.fault.FactsError.TheVariants as errors
use Rattle.og_facts.specs.Counts.{count}
use Rattle.og_facts.specs.Facts.{Fact, facts_of, most_facts}
use Rattle.og_facts.specs.Listed.{Listed}
use Rattle.og_facts.specs.Plain.{plain_fact}

-- the facts of the condition and its number of variables; or its fault; or memory ran out, and there are not too many facts
abbrev pub IsFacts : Condition → Result Listed FactsError → Type 0
IsFacts c (Ok list) = (facts_of c ≡ Ok list.facts) × (list.variables ≡ c.variables)
IsFacts c (Err (errors.Fault fault)) = facts_of c ≡ Err fault
IsFacts c (Err errors.Memory) = count c ≤ most_facts

-- these are the map and the values of an action that assigns what this one does, if there is this one
abbrev pub IsPrepared : Option Action → Prepared → Type 0
IsPrepared None p = ⊥
IsPrepared (Some action) p = (forward (action_body action) ≡ Some p.map) × (values (action_body action) ≡ Some p.values)

-- the facts in the list
abbrev pub shown : Vec its.Fact Global → List Fact
shown facts = map plain_fact facts.items

-- these facts, and the added ones after them
abbrev pub added_to : List Fact → Option (List Fact) → Option (List Fact)
added_to front added = option_map (λ fs. front ++ fs) added
