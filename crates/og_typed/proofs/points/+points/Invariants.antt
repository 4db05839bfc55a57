use Rattle.std.proofs.Common.{◌≡◌, ◌++◌, ◌≤◌, length, drop, map}
use Rattle.og_typed.specs.Plain.{item_pair}
use Rattle.og_typed.specs.declared.statement.Seq.{out-Seq}
use Rattle.og_typed.specs.Points.{rest_at}
use Rattle.og_typed.specs.Table.{rests_of, IsGrown}
use Rattle.og_typed.proofs.Tables.{list_rests}
use Rattle.og_typed.proofs.points.+points.Given as goal

abbrev pub decreases-add_item : goal.decreases-add_item
decreases-add_item l = goal.size-add_item l

abbrev pub decreases-add_seq : goal.decreases-add_seq
decreases-add_seq l = goal.size-add_seq l

abbrev pub invariant-add_seq-loop-left : goal.invariant-add_seq-loop-left
invariant-add_seq-loop-left l = record {
  bound : l.left ≤ length (out-Seq l.seq).items.items;
  grown : IsGrown l.fn.points.items l.points.items;
  known : l.at ≤ length l.points.items;
  rest : rest_at (rests_of l.points.items) l.at ≡ map item_pair (drop l.left ((out-Seq l.seq).items.items)) ++ rest_at (rests_of l.fn.points.items) l.fn.after;
  table : rests_of l.points.items ≡ rests_of l.fn.points.items ++ list_rests (map item_pair (drop l.left ((out-Seq l.seq).items.items))) (rest_at (rests_of l.fn.points.items) l.fn.after);
}

abbrev pub decreases-add_seq-loop-left : goal.decreases-add_seq-loop-left
decreases-add_seq-loop-left l = l.left
