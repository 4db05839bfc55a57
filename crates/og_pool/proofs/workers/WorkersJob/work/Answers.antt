use Rattle.std.proofs.Common.{◌∙◌, refl}
use Rattle.std.proofs.lemmas.List.Elements.{All-push}
use Rattle.og_pool.specs.declared.answered.TaskAnswer.{TaskAnswer}
use Rattle.og_pool.specs.TaskAnswers.{IsRight}
use Rattle.og_pool.proofs.TaskAnswers.{nearer, has_answer_drawn}
use Rattle.og_pool.proofs.workers.WorkersJob.work.Goals as goal

pub loop-number-smaller : goal.loop-number-smaller
loop-number-smaller g c = let s = c.in-Some.ensures.some in nearer _ _ c.in-Some.number c.args.self.now.draws.now.count s.0 s.1 c.in-Some.ensures.rising s.2

pub loop-number-preserved : goal.loop-number-preserved
loop-number-preserved g c =
    let i = c.loop-number.invariant in
    let s = c.in-Some.ensures.some in
    let answered : TaskAnswer g.row.N-Answer.Denot = record { number = c.in-Some.number; answer = c.in_ok-answer.answer } in
    let items = c.in_ok-push.ensures.items in record {
      source = c.draw.ensures.kept.0;
      workers = c.draw.ensures.kept.1 ∙ i.workers;
      none = s.3;
      right = rw items (All-push (IsRight (g.N.Numbered.may_answer c.args.self.now.tasks.now)) c.loop-number.answered.items answered i.right (s.0, c.in_ok-answer.ensures.answer));
      answered = rw items (has_answer_drawn _ _ c.loop-number.answered.items answered c.in-Some.number s.0 refl s.2 i.answered);
      keeps = c.answer.ensures.keeps;
    }
