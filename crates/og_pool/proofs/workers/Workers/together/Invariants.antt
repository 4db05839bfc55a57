use Rattle.std.proofs.Common.{◌≡◌, ◌+◌, vec_len}
use Rattle.std.specs.List.{All}
use Rattle.og_pool.specs.TaskAnswers.{PartDone, DrawsDone}
use Rattle.og_pool.proofs.workers.Workers.together.Given as goal

abbrev pub invariant-loop-other : goal.invariant-loop-other
invariant-loop-other g l =
    let source = l.self.draws.now in
    let may = g.N.Numbered.may_answer l.self.tasks.now in record {
      mine : l.drawer.source ≡ source;
      counted : l.drawer.workers + vec_len l.gains ≡ vec_len l.fn.gains;
      done : DrawsDone source.count may l.drawer.drawn l.answered.items;
      each : All (λ r. PartDone source 1 may r.0 r.1.items) l.gains.items;
    }

abbrev pub decreases-loop-other : goal.decreases-loop-other
decreases-loop-other g l = vec_len l.gains
