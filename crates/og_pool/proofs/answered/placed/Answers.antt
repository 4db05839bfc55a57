use Rattle.std.proofs.Common.{◌≡◌, [], Some, inl, ⊎_elim, rules, ◌-◌, ◌∙◌}
use Rattle.std.specs.List.{All}
use Rattle.std.proofs.lemmas.List.Elements.{All-pop}
use Rattle.og_pool.specs.TaskAnswers.{IsRight, HasAnswer, IsFilled}
use Rattle.og_pool.proofs.Slots.{none_right, right_more, filled_more, none_answered}
use Rattle.og_pool.proofs.answered.placed.Goals as goal

pub loop-t-init : goal.loop-t-init
loop-t-init g c = record {
  rest = c.requires;
  len = c.in_ok-slots.ensures.len;
  right = none_right (g.N.Numbered.may_answer c.args.tasks.now) c.in_ok-slots.slots.items c.in_ok-slots.ensures.empty;
  filled = λ n above below tells. inl tells;
}

pub loop-t-preserved : goal.loop-t-preserved
loop-t-preserved g c =
    let i = c.loop-t.invariant in
    let put = c.place.ensures in
    let may = g.N.Numbered.may_answer c.args.tasks.now in
    let pop = c.in-Some.ensures in
    let its : All (IsRight may) c.pop.new.self.items × IsRight may c.in-Some.t = All-pop (IsRight may) _ _ (Some c.in-Some.t) pop.items i.rest in record {
      rest = its.0;
      len = put.len ∙ i.len;
      right = right_more may c.loop-t.slots.items c.place.new.slots.items c.in-Some.t its.1 put.len put.here put.others i.right;
      filled = filled_more c.args.count c.loop-t.slots.items c.place.new.slots.items c.args.answered.items c.loop-t.answered.items c.pop.new.self.items c.in-Some.t its.1.0 i.len pop.items put.here put.others i.filled;
    }

pub returns-clause-filled : goal.returns-clause-filled
returns-clause-filled g c = λ n above below tells.
    let none : c.loop-t.answered.items ≡ [] = search rules in ⊎_elim
    (λ (more : HasAnswer c.loop-t.answered.items n). absurd (none_answered c.loop-t.answered.items n none more))
    (λ (filled : IsFilled c.loop-t.slots.items (n - 1)). filled)
    (c.loop-t.invariant.filled n above below tells)
