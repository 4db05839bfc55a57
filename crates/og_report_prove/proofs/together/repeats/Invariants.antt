use Rattle.std.proofs.Common.{map}
use Rattle.og_report_prove.specs.Together.{key_seen}
use Rattle.og_report_prove.proofs.Keys.{IsLeft}
use Rattle.og_report_prove.proofs.together.repeats.Given as goal

abbrev pub invariant-loop-index : goal.invariant-loop-index
invariant-loop-index l = IsLeft (map key_seen l.keys) l.index l.counts l.repeats.items
