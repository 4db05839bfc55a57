use Rattle.std.proofs.Common.{◌≡◌, ◌+◌, ◌*◌, map, drop}
use Rattle.og_facts.specs.Truth.{all_true_at}
use Rattle.og_facts.specs.Plain.{plain_fact}
use Rattle.og_find.proofs.truth.+truth.Given as goal

abbrev pub decreases-is_true : goal.decreases-is_true
decreases-is_true l = 3 * l.depth

abbrev pub decreases-all_true : goal.decreases-all_true
decreases-all_true l = 3 * l.depth + 1

abbrev pub decreases-some_true : goal.decreases-some_true
decreases-some_true l = 3 * l.depth + 2

abbrev pub invariant-all_true-loop-fact : goal.invariant-all_true-loop-fact
invariant-all_true-loop-fact l = all_true_at l.values (map plain_fact (drop l.fact-index l.facts)) ≡ all_true_at l.values (map plain_fact l.facts)
