use Rattle.std.proofs.Common.{◌≡◌, ℕ, ◌+◌, ◌-◌, ◌<◌}
use Rattle.std.specs.List.{All}
use Rattle.og_pool.specs.Drawing.{past, times}
use Rattle.og_pool.specs.TaskAnswers.{IsRight, HasAnswer}
use Rattle.og_pool.proofs.TaskAnswers.{above}
use Rattle.og_pool.proofs.workers.WorkersJob.work.Given as goal

abbrev pub invariant-loop-number : goal.invariant-loop-number
invariant-loop-number g l = record {
  source : l.drawer.source ≡ l.self.draws.now;
  workers : l.drawer.workers ≡ l.initial.drawer.workers;
  none : past l.self.draws.now.count l.drawer.drawn ≡ 0;
  right : All (IsRight (g.N.Numbered.may_answer l.self.tasks.now)) l.answered.items;
  answered : (x : ℕ) → 0 < times x l.drawer.drawn → HasAnswer l.answered.items (x + 1);
  keeps : g.N.Numbered.keeps l.self.tasks.now l.kept;
}

abbrev pub decreases-loop-number : goal.decreases-loop-number
decreases-loop-number g l = l.self.draws.now.count - above l.drawer.drawn
