-- Where the parts of an outline begin.
use Rattle.std.specs.Prelude.{◌≡◌, map}
use Rattle.og_typed.specs.Syntax.{Program, items, part_items}
use Rattle.og_typed.specs.declared.points.Beginning.{Beginning}
use Rattle.og_typed.specs.Points.{rest_at, rests_at, point_rests}

-- the points are those of the outline, and each part is left at that where it begins
pub record IsBeginning (o : Program) (b : Beginning) : Type 0 where
  pub points : b.points ≡ point_rests o
  pub prologue : rest_at b.points b.prologue ≡ part_items o.prologue
  pub rests : rests_at b.points b.rests.items ≡ map items o.processes
  pub epilogue : rest_at b.points b.epilogue ≡ part_items o.epilogue
