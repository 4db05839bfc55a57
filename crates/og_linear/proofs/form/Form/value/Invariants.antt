use Rattle.std.proofs.Common.{◌≡◌, ◌≤◌, ◌*◌, ◌^◌, ◌+ℤ◌, drop}
use Rattle.std.specs.Prelude.{nat_abs}
use Rattle.og_linear.specs.Linear.{val_terms}
use Rattle.og_linear.proofs.form.Form.value.Given as goal

abbrev pub invariant-loop-t : goal.invariant-loop-t
invariant-loop-t l = record {
  so_far : l.sum +ℤ val_terms (drop l.t-index l.t-items) l.values ≡ val_terms l.t-items l.values;
  small : nat_abs l.sum ≤ l.t-index * 2 ^ 94;
}
