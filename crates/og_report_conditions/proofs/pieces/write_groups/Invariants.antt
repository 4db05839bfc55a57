use Rattle.std.proofs.Common.{◌≡◌, ◌+◌, length}
use Rattle.og_cond.specs.Groups.{rest, left}
use Rattle.og_report_conditions.specs.Listings.{numbers_in, wanted_lines}
use Rattle.og_io.proofs.Passing.{HasPassed}
use Rattle.og_report_conditions.proofs.pieces.write_groups.Given as goal

abbrev pub invariant-loop-group : goal.invariant-loop-group
invariant-loop-group g l = record {
  count : l.number + length (rest l.groups) ≡ 1 + length (rest l.initial.groups);
  passed : HasPassed (g.W.Write.contents l.initial.out) (g.W.Write.contents l.out) l.initial.text.items l.text.items
      (wanted_lines l.lines.form (numbers_in l.lines.only) l.lines.names.now l.lines.places.now 1 (rest l.initial.groups))
      (wanted_lines l.lines.form (numbers_in l.lines.only) l.lines.names.now l.lines.places.now l.number (rest l.groups));
}

abbrev pub decreases-loop-group : goal.decreases-loop-group
decreases-loop-group g l = left l.groups
