use Rattle.std.proofs.Common.{◌≡◌, map, option_map}
use Rattle.og_report_text.specs.Values.{numbers}
use Rattle.og_report_findings.specs.Bounds.{numbers_of}
use Rattle.og_report_findings.proofs.bounds.assigned.Given as goal

abbrev pub invariant-loop-var : goal.invariant-loop-var
invariant-loop-var l = map (option_map (λ v. v.items)) l.all.items ≡ map (numbers_of l.outline) (numbers l.var)
