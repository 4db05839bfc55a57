use Rattle.std.proofs.Common.{◌≡◌, ◌-◌, ◌≤◌, ◌++◌, length, drop, true}
use Rattle.og_report_text.specs.Listing.{terms_text}
use Rattle.og_report_conditions.proofs.statements.put_terms.Given as goal

abbrev pub invariant-loop-var : goal.invariant-loop-var
invariant-loop-var l = record {
  inside : l.i ≤ length l.form.terms;
  made : l.text.items ++ terms_text l.names l.first (drop l.i l.form.terms) ≡ l.initial.text.items ++ terms_text l.names true l.form.terms;
}

abbrev pub decreases-loop-var : goal.decreases-loop-var
decreases-loop-var l = length l.form.terms - l.i
