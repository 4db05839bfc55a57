use Rattle.std.proofs.Common.{◌≡◌, ◌+◌, drop, map}
use Rattle.og_cond.specs.Seen.{seen}
use Rattle.og_report_conditions.specs.Listings.{numbers_in, wanted_lines}
use Rattle.og_io.proofs.Passing.{HasPassed}
use Rattle.og_report_conditions.proofs.pieces.write_group.Given as goal

abbrev pub invariant-loop-condition : goal.invariant-loop-condition
invariant-loop-condition g l = record {
  number : l.number ≡ l.first + l.condition-index;
  passed : HasPassed (g.W.Write.contents l.initial.out) (g.W.Write.contents l.out) l.initial.text.items l.text.items
      (wanted_lines l.lines.form (numbers_in l.lines.only) l.lines.names.now l.lines.places.now l.first (map seen l.group))
      (wanted_lines l.lines.form (numbers_in l.lines.only) l.lines.names.now l.lines.places.now l.number (map seen (drop l.condition-index l.group)));
}
