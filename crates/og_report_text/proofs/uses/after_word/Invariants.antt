use Rattle.std.proofs.Common.{◌≡◌, ◌≤◌, length}
use Rattle.og_report_text.specs.Uses.{after_word}
use Rattle.og_report_text.proofs.uses.after_word.Given as goal

abbrev pub invariant-loop-rest : goal.invariant-loop-rest
invariant-loop-rest l = record {
  same : after_word l.rest ≡ after_word l.bytes;
  few : length l.rest ≤ length l.bytes;
}

abbrev pub decreases-loop-rest : goal.decreases-loop-rest
decreases-loop-rest l = length l.rest
