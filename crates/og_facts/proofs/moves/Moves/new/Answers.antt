use Rattle.std.specs.Prelude.{option_map}
use Rattle.og_subst.specs.Actions.{action_tree}
use Rattle.og_cond.specs.Condition.{assignments}
use Rattle.og_facts.proofs.Moving.{named}
use Rattle.og_facts.proofs.moves.Moves.new.Goals as goal

pub invariant_of-result : goal.invariant_of-result
invariant_of-result c = λ x h. named (assignments (option_map action_tree c.args.action)) c.args.map.now x c.requires h
