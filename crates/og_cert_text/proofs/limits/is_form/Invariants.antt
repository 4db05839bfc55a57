use Rattle.std.proofs.Common.{◌≡◌, ◌≤◌, ◌-◌, take, length, true}
use Rattle.std.specs.List.{list_all}
use Rattle.og_linear.specs.Bounded.{fits_terms}
use Rattle.og_cert_text.specs.Lines.{is_variable}
use Rattle.og_cert_text.proofs.limits.is_form.Given as goal

abbrev pub invariant-loop-v : goal.invariant-loop-v
invariant-loop-v l = record {
  fits : fits_terms (take l.i l.form.terms) ≡ true;
  small : list_all (λ t. is_variable t.0) (take l.i l.form.terms) ≡ true;
  within : l.i ≤ length l.form.terms;
}

abbrev pub decreases-loop-v : goal.decreases-loop-v
decreases-loop-v l = length l.form.terms - l.i
