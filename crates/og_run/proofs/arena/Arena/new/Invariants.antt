use Rattle.std.proofs.Common.{◌≡◌, false, []}
use Rattle.og_run.specs.Cards.{card, Handed, FirstSeats}
use Rattle.og_run.proofs.arena.Arena.new.Given as goal

abbrev pub ghosts-hand_out : goal.ghosts-hand_out
ghosts-hand_out g a = record { process = a.p; card = card (g.B.Machine.given a._machine.now) [] false }

abbrev pub invariant-loop-p : goal.invariant-loop-p
invariant-loop-p g l = record {
  table : l.keeper.table_id ≡ l.initial.keeper.table_id;
  none : l.keeper.me.1 ≡ [];
  handed : Handed (g.B.Machine.given l.machine) l.p l.keeper.me.0;
  seats : FirstSeats (g.B.Machine.given l.machine) l.p l.seats.items;
}
