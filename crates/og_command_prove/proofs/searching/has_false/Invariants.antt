use Rattle.std.proofs.Common.{◌≡◌, drop}
use Rattle.og_report_findings.specs.Verdicts.{has_false}
use Rattle.og_command_prove.proofs.searching.has_false.Given as goal

abbrev pub invariant-loop-diagnosis : goal.invariant-loop-diagnosis
invariant-loop-diagnosis l = has_false l.diagnoses ≡ has_false (drop l.diagnosis-index l.diagnoses)
