use Rattle.std.proofs.Common.{◌≡◌, ◌++◌, drop, map}
use Rattle.og_cond.specs.Seen.{part_of}
use Rattle.og_report_conditions.specs.Script.{parts_text}
use Rattle.og_report_conditions.proofs.hypotheses.put_parts.Given as goal

abbrev pub invariant-loop-part : goal.invariant-loop-part
invariant-loop-part l = l.text.items ++ parts_text l.names (map part_of (drop l.part-index l.parts)) ≡ l.initial.text.items ++ parts_text l.names (map part_of l.parts)
