use Rattle.std.proofs.Common.{ℕ, subst}
use Rattle.og_cond.specs.Counting.{Leaves}
use Rattle.og_facts.proofs.Counted.{each_hypothesis}
use Rattle.og_facts.proofs.counting.room_after_hypotheses.Goals as goal

pub returns : goal.returns
returns c = subst (λ (n : ℕ). Leaves c.args.room n c.room_after_each.result) (each_hypothesis c.args.hypotheses.now) c.room_after_each.ensures
