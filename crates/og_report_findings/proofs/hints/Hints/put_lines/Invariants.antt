use Rattle.std.proofs.Common.{◌≡◌, ◌++◌, drop, map}
use Rattle.og_typed.specs.Plain.{noted}
use Rattle.og_report_findings.specs.Hints.{hint_lines}
use Rattle.og_report_findings.proofs.hints.Hints.put_lines.Given as goal

abbrev pub invariant-loop-var : goal.invariant-loop-var
invariant-loop-var l =
    l.text.items ++ hint_lines l.self (map (λ n. noted n.now) l.place.known.now) l.place.values.now (drop l.var-index l.vars)
    ≡ l.initial.text.items ++ hint_lines l.self (map (λ n. noted n.now) l.place.known.now) l.place.values.now l.vars
