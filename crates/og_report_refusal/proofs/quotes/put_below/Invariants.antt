use Rattle.std.proofs.Common.{◌≡◌, ◌++◌, map, take}
use Rattle.og_report_refusal.specs.Quotes.{below_byte}
use Rattle.og_report_refusal.proofs.quotes.put_below.Given as goal

abbrev pub invariant-loop-byte : goal.invariant-loop-byte
invariant-loop-byte l = l.text.items ≡ l.initial.text.items ++ map below_byte (take l.byte-index l.bytes)
