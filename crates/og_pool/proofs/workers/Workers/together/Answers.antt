use Rattle.std.proofs.Common.{Vec, Global, Some, arith}
use Rattle.std.specs.List.{All}
use Rattle.std.proofs.lemmas.List.Elements.{All-pop}
use Rattle.og_pool.specs.declared.draws.Drawer.{Drawer}
use Rattle.og_pool.specs.declared.answered.TaskAnswer.{TaskAnswer}
use Rattle.og_pool.specs.TaskAnswers.{PartDone}
use Rattle.og_pool.proofs.TaskAnswers.{both_draws}
use Rattle.og_pool.proofs.workers.Workers.together.Goals as goal

pub loop-other-init : goal.loop-other-init
loop-other-init g c =
    let may = g.N.Numbered.may_answer c.args.self.now.tasks.now in
    let done : Drawer × Vec (TaskAnswer g.row.N-Answer.Denot) Global → Type 0 = λ r. PartDone c.args.self.now.draws.now 1 may r.0 r.1.items in
    let pop = c.in-Some.ensures in
    let its : All done c.pop.new.self.items × done (c.in-Some.drawer, c.in-Some.answered) = All-pop done _ _ (Some (c.in-Some.drawer, c.in-Some.answered)) pop.items c.requires.each in record {
      mine = its.1.0;
      counted = omega (arith, its.1.1, pop.len);
      done = its.1.2;
      each = its.0;
    }

pub join-requires : goal.join-requires
join-requires g c =
    let may = g.N.Numbered.may_answer c.args.self.now.tasks.now in
    let done : Drawer × Vec (TaskAnswer g.row.N-Answer.Denot) Global → Type 0 = λ r. PartDone c.args.self.now.draws.now 1 may r.0 r.1.items in
    let i = c.loop-other.invariant in
    let its = All-pop done _ _ (Some (c.in-Some-pop.other, c.in-Some-pop.more)) c.in-Some-pop.ensures.items i.each in (i.mine, its.1.0)

pub loop-other-preserved : goal.loop-other-preserved
loop-other-preserved g c =
    let i = c.loop-other.invariant in
    let source = c.args.self.now.draws.now in
    let may = g.N.Numbered.may_answer c.args.self.now.tasks.now in
    let done : Drawer × Vec (TaskAnswer g.row.N-Answer.Denot) Global → Type 0 = λ r. PartDone source 1 may r.0 r.1.items in
    let pop = c.in-Some-pop.ensures in
    let its : All done c.pop-in-loop-other.new.self.items × done (c.in-Some-pop.other, c.in-Some-pop.more) = All-pop done _ _ (Some (c.in-Some-pop.other, c.in-Some-pop.more)) pop.items i.each in
    let joined = c.join.ensures in record {
      mine = joined.0;
      counted = omega (arith, i.counted, joined.1, its.1.1, pop.len);
      done = both_draws source.count may _ _ _ _ _ _ joined.2 c.in_ok-append.ensures.items i.done its.1.2;
      each = its.0;
    }
