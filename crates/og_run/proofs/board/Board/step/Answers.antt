use Rattle.std.proofs.Common.{ℕ, ◌<◌, List, length, sym, ◌∙◌, subst, arith}
use Rattle.og_step.specs.After.{IsAfter}
use Rattle.og_step.specs.declared.turn.Turn.TheVariants as turn
use Rattle.og_run.specs.Turns.{IsTurn}
use Rattle.og_run.specs.declared.turn.RunTurn.TheVariants.{Overflow}
use Rattle.og_run.specs.Standing.{Standing, IsBoard}
use Rattle.og_run.proofs.Turning.{turned}
use Rattle.og_run.proofs.Boards.{some_same, none_is, not_stuck, board_there, board_room, board_moved, board_noted}
use Rattle.og_run.proofs.board.Board.step.Goals as goal

pub count_move-requires-clause-inside : goal.count_move-requires-clause-inside
count_move-requires-clause-inside c =
    let s : Standing = record { given = c.self.inside.setting; history = c.self.inside.history.items; halted = c.self.inside.halted } in
    (board_there s c.self.inside.moment c.self.inside.counts.items c.args.p c.self.invariant.0 (sym c.is_done.ensures ∙ c.if-is_done.false)).3

pub count_move-requires-clause-few : goal.count_move-requires-clause-few
count_move-requires-clause-few c = λ n e.
    let s : Standing = record { given = c.self.inside.setting; history = c.self.inside.history.items; halted = c.self.inside.halted } in
    let there = board_there s c.self.inside.moment c.self.inside.counts.items c.args.p c.self.invariant.0 (sym c.is_done.ensures ∙ c.if-is_done.false) in
    omega (arith, there.2, some_same n there.0 (sym e ∙ there.1))

pub invariant_of-self : goal.invariant_of-self
invariant_of-self c =
    let s : Standing = record { given = c.self.inside.setting; history = c.self.inside.history.items; halted = c.self.inside.halted } in
    let there = board_there s c.self.inside.moment c.self.inside.counts.items c.args.p c.self.invariant.0 (sym c.is_done.ensures ∙ c.if-is_done.false) in
    let after = subst (λ t. IsAfter t c.args.p c.self.inside.moment c.step.new.self) c.in-Moved.is c.step.ensures.after in
    let none = none_is c.self.inside.halted (sym c.is_some.ensures ∙ c.if-is_some.false) in
    let room : length c.self.inside.history.items < c.self.inside.setting.limit = omega (arith, c.is_full.ensures.room c.if-is_full.false, c.limit.ensures) in
    let board = board_moved s c.self.inside.moment c.step.new.self c.self.inside.counts.items c.args.p there.0 c.self.invariant.0 none room after.0 after.1 there.1 in
    let items = c.push_reserved.ensures.items in
    let counts = c.count_move.ensures there.0 there.1 in (
      subst (λ (z : List ℕ × List ℕ). IsBoard (record { given = c.self.inside.setting; history = z.0; halted = c.self.inside.halted }) c.step.new.self z.1) (λ i. (sym items i, sym counts i)) board,
      omega (arith, c.self.invariant.1, c.push_reserved.ensures.capacity),
    )

pub invariant_of-self-in-Overflow : goal.invariant_of-self-in-Overflow
invariant_of-self-in-Overflow c =
    let s : Standing = record { given = c.self.inside.setting; history = c.self.inside.history.items; halted = c.self.inside.halted } in
    let is = c.self.invariant.0 in
    let a = c.self.inside.moment in
    let after = subst (λ t. IsAfter t c.args.p c.self.inside.moment c.step.new.self) c.in-Overflow.is c.step.ensures.after in
    let room : length c.self.inside.history.items < c.self.inside.setting.limit = omega (arith, c.is_full.ensures.room c.if-is_full.false, c.limit.ensures) in
    let has_room = board_room s a c.self.inside.counts.items c.args.p is (sym c.is_done.ensures ∙ c.if-is_done.false) (not_stuck c.is_stuck.result _ c.is_stuck.ensures c.if-is_stuck.false) room in
    let over : IsTurn s.given s.history c.args.p Overflow = (a.moment, is.leads, turned s.given s.history a.moment c.args.p turn.Overflow has_room (sym c.in-Overflow.is ∙ c.step.ensures.turn)) in (board_noted s a c.step.new.self c.self.inside.counts.items c.args.p is after.1 over, c.self.invariant.1)
