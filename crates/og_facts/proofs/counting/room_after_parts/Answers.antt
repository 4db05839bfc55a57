use Rattle.std.proofs.Common.{ℕ, subst}
use Rattle.og_cond.specs.Counting.{Leaves}
use Rattle.og_facts.proofs.Counted.{each_part}
use Rattle.og_facts.proofs.counting.room_after_parts.Goals as goal

pub returns : goal.returns
returns c = subst (λ (n : ℕ). Leaves c.args.room n c.room_after_each.result) (each_part c.args.parts.now) c.room_after_each.ensures
