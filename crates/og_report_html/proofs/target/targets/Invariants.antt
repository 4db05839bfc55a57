use Rattle.std.proofs.Common.{◌≡◌, drop, length, map}
use Rattle.og_cond.specs.Seen.{seen}
use Rattle.og_report_html.proofs.Targeting.{MakesAll}
use Rattle.og_report_html.proofs.target.targets.Given as goal

abbrev pub invariant-loop-i : goal.invariant-loop-i
invariant-loop-i l = record {
  targets : MakesAll l.outline (map seen l.conditions) (drop l.i (map seen l.conditions)) l.all.items;
  each : length l.all.items ≡ l.i;
}
