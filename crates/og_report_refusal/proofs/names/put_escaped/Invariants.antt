use Rattle.std.proofs.Common.{◌≡◌, ◌++◌, drop, false}
use Rattle.og_report_refusal.specs.Names.{shown_from}
use Rattle.og_report_refusal.proofs.names.put_escaped.Given as goal

abbrev pub invariant-loop-byte : goal.invariant-loop-byte
invariant-loop-byte l = l.text.items ++ shown_from l.is_quoted l.is_half (drop l.byte-index l.name) ≡ l.initial.text.items ++ shown_from l.is_quoted false l.name
