use Rattle.std.proofs.Common.{◌≡◌, ◌≤◌, length, take}
use Rattle.og_report_text.specs.Quotes.{trimmed}
use Rattle.og_report_text.proofs.quotes.trimmed.Given as goal

abbrev pub invariant-loop-length : goal.invariant-loop-length
invariant-loop-length l = record {
  inside : l.length ≤ length l.bytes;
  same : trimmed (take l.length l.bytes) ≡ trimmed l.bytes;
}

abbrev pub decreases-loop-length : goal.decreases-loop-length
decreases-loop-length l = l.length
