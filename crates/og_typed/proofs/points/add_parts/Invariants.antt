use Rattle.std.proofs.Common.{◌≡◌, ◌≤◌, ◌++◌, length, map, take}
use Rattle.std.specs.List.{AllByRecursion}
use Rattle.og_typed.specs.Plain.{sequence}
use Rattle.og_typed.specs.Syntax.{items}
use Rattle.og_typed.specs.Points.{rest_at, parts_rests}
use Rattle.og_typed.specs.Table.{rests_of, IsGrown}
use Rattle.og_typed.proofs.points.add_parts.Given as goal

abbrev pub invariant-loop-seq : goal.invariant-loop-seq
invariant-loop-seq l = record {
  grown : IsGrown l.fn.points.items l.points.items;
  places : AllByRecursion (λ at. at ≤ length l.points.items) l.all.items;
  rests : map (rest_at (rests_of l.points.items)) l.all.items ≡ map items (map sequence (take l.seq-index l.parts));
  table : rests_of l.points.items ≡ rests_of l.fn.points.items ++ parts_rests (map sequence (take l.seq-index l.parts));
}
