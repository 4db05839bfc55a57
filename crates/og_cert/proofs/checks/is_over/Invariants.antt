use Rattle.std.proofs.Common.{◌≡◌, ◌-◌, ◌≤◌, length, drop}
use Rattle.std.specs.Prelude.{nat_lt}
use Rattle.std.specs.List.{list_all}
use Rattle.og_cert.proofs.checks.is_over.Given as goal

abbrev pub invariant-loop-var : goal.invariant-loop-var
invariant-loop-var l = record {
  inside : l.index ≤ length l.form.terms;
  same : list_all (λ t. nat_lt t.0 l.variables) (drop l.index l.form.terms) ≡ list_all (λ t. nat_lt t.0 l.variables) l.form.terms;
}

abbrev pub decreases-loop-var : goal.decreases-loop-var
decreases-loop-var l = length l.form.terms - l.index
