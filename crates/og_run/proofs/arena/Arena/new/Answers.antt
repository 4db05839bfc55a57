use Rattle.std.proofs.Common.{◌<◌, ap, ◌∙◌, arith, ℕ, List}
use Rattle.og_run.specs.Histories.{process_count}
use Rattle.og_run.specs.declared.rule.View.{View}
use Rattle.og_run.proofs.Opening.{handed_inside, handed_next, first_seats_push}
use Rattle.og_run.proofs.arena.Arena.new.Goals as goal

pub hand_out-token-requires-clause-inside : goal.hand_out-token-requires-clause-inside
hand_out-token-requires-clause-inside g c =
    let less : c.loop-p.p < process_count (g.B.Machine.given c.args.machine).outline = omega (arith, c.loop-p-test.true, c.processes-p-end.ensures) in
    handed_inside (g.B.Machine.given c.args.machine) c.loop-p.p c.loop-p.keeper.me.0 c.loop-p.invariant.handed less

pub loop-p-preserved : goal.loop-p-preserved
loop-p-preserved g c =
    let less : c.loop-p.p < process_count (g.B.Machine.given c.args.machine).outline = omega (arith, c.loop-p-test.true, c.processes-p-end.ensures) in
    let i = c.loop-p.invariant in
    let k = c.hand_out-token.ensures.kept in
    let game = g.B.Machine.given c.args.machine in
    let me = ap (λ (m : View × List (ℕ × Unit {0})). m.0) k.1 in
    let given = ap (λ (m : View × List (ℕ × Unit {0})). m.0.card) c.hand_out-token.ensures.given.1 in
    let first = c.first_seat.ensures in record {
      table = k.0 ∙ i.table;
      none = ap (λ (m : View × List (ℕ × Unit {0})). m.1) k.1 ∙ i.none;
      handed = handed_next game c.loop-p.p c.loop-p.keeper.me.0 c.hand_out-token.new.keeper.me.0 i.handed less me;
      seats = first_seats_push game c.loop-p.p c.loop-p.seats.items c.push.new.self.items c.first_seat.result i.seats c.in_ok-push.ensures.items first.0 (first.1 ∙ given);
    }
