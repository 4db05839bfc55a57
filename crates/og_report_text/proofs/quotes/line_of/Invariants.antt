use Rattle.std.proofs.Common.{◌≡◌, ◌++◌, take, drop}
use Rattle.og_report_text.specs.Quotes.{line_of}
use Rattle.og_report_text.proofs.quotes.line_of.Given as goal

abbrev pub invariant-loop-i : goal.invariant-loop-i
invariant-loop-i l = take l.i l.bytes ++ line_of (drop l.i l.bytes) ≡ line_of l.bytes
