use Rattle.std.proofs.Common.{◌≡◌, ◌⊎◌, ℕ, ◌<◌, ◌≤◌, ◌-◌, length, vec_len}
use Rattle.std.specs.List.{All}
use Rattle.og_pool.specs.TaskAnswers.{IsRight, HasAnswer, IsFilled, AreRight}
use Rattle.og_pool.proofs.answered.placed.Given as goal

abbrev pub invariant-loop-t : goal.invariant-loop-t
invariant-loop-t g l =
    let may = g.N.Numbered.may_answer l.tasks in record {
      rest : All (IsRight may) l.answered.items;
      len : length l.slots.items ≡ l.count;
      right : AreRight may l.slots.items;
      filled : (n : ℕ) → 0 < n → n ≤ l.count → HasAnswer l.fn.answered.items n → HasAnswer l.answered.items n ⊎ IsFilled l.slots.items (n - 1);
    }

abbrev pub decreases-loop-t : goal.decreases-loop-t
decreases-loop-t g l = vec_len l.answered
