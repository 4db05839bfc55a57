use Rattle.std.proofs.Common.{◌≡◌, ◌++◌, drop}
use Rattle.std.specs.Prelude.{filter_map}
use Rattle.og_report_findings.specs.Alike.{is_of}
use Rattle.og_report_findings.proofs.places.places_of.Given as goal

abbrev pub invariant-loop-other : goal.invariant-loop-other
invariant-loop-other l = l.places.items ++ filter_map (is_of l.process) (drop l.other-index l.others) ≡ filter_map (is_of l.process) l.others
