use Rattle.std.proofs.Common.{◌≡◌, ◌++◌, take, drop}
use Rattle.og_report_text.specs.Uses.{up_to_brace}
use Rattle.og_report_text.proofs.uses.up_to_brace.Given as goal

abbrev pub invariant-loop-i : goal.invariant-loop-i
invariant-loop-i l = take l.i l.bytes ++ up_to_brace (drop l.i l.bytes) ≡ up_to_brace l.bytes
