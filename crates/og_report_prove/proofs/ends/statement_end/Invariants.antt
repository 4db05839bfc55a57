use Rattle.std.proofs.Common.{◌≡◌, ◌≤◌, drop, length, false}
use Rattle.og_report_prove.specs.Ends.{statement_end}
use Rattle.og_report_prove.proofs.ends.statement_end.Given as goal

abbrev pub invariant-loop-place : goal.invariant-loop-place
invariant-loop-place l = record {
  same : statement_end l.comment l.last l.place (drop l.place l.source) ≡ statement_end false l.at l.at (drop l.at l.source);
  behind : l.at ≤ l.last;
  within : l.last ≤ length l.source;
}
