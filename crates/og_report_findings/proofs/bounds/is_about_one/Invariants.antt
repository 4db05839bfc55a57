use Rattle.std.proofs.Common.{◌≡◌, drop}
use Rattle.std.specs.List.{list_any}
use Rattle.og_report_text.specs.Seen.{formulas_of}
use Rattle.og_report_findings.specs.Bounds.{is_about}
use Rattle.og_report_findings.proofs.bounds.is_about_one.Given as goal

abbrev pub invariant-loop-assert : goal.invariant-loop-assert
invariant-loop-assert l = list_any (is_about l.others l.var) (formulas_of l.all) ≡ list_any (is_about l.others l.var) (formulas_of (drop l.assert-index l.all))
