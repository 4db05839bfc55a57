use Rattle.std.proofs.Common.{◌≡◌, ◌++◌, [], drop}
use Rattle.og_report_explore.specs.Totals.{ranges_text}
use Rattle.og_report_explore.proofs.totals.put_ranges.Given as goal

abbrev pub invariant-loop-index : goal.invariant-loop-index
invariant-loop-index l = l.text.items ++ ranges_text l.names l.between l.index (drop l.index l.given) ≡ l.initial.text.items ++ ranges_text l.names [] 0 l.given
