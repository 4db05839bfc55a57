use Rattle.std.proofs.Common.{◌≡◌, ◌-◌, ◌≤◌, ◌++◌, length, drop}
use Rattle.og_report_conditions.specs.Script.{terms_text}
use Rattle.og_report_conditions.proofs.terms.put_terms.Given as goal

abbrev pub invariant-loop-var : goal.invariant-loop-var
invariant-loop-var l = record {
  inside : l.i ≤ length l.form.terms;
  made : l.text.items ++ terms_text l.names (drop l.i l.form.terms) ≡ l.initial.text.items ++ terms_text l.names l.form.terms;
}

abbrev pub decreases-loop-var : goal.decreases-loop-var
decreases-loop-var l = length l.form.terms - l.i
