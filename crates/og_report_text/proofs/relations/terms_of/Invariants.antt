use Rattle.std.proofs.Common.{◌≡◌, ◌-◌, ◌≤◌, ◌++◌, length, drop}
use Rattle.og_report_text.proofs.relations.terms_of.Given as goal

abbrev pub invariant-loop-term : goal.invariant-loop-term
invariant-loop-term l = record {
  inside : l.i ≤ length l.form.terms;
  made : l.terms.items ++ drop l.i l.form.terms ≡ l.form.terms;
}

abbrev pub decreases-loop-term : goal.decreases-loop-term
decreases-loop-term l = length l.form.terms - l.i
