use Rattle.std.proofs.Common.{◌≡◌, ℕ, ◌-◌, ◌≤◌, ◌&&◌, ◌||◌, length, drop}
use Rattle.std.specs.Prelude.{nat_lt}
use Rattle.og_linear.specs.Linear.{is_term}
use Rattle.og_cond.specs.Sets.{has}
use Rattle.og_cond.proofs.sets.add_form.Given as goal

abbrev pub invariant-loop-var : goal.invariant-loop-var
invariant-loop-var l = record {
  inside : l.index ≤ length l.form.terms;
  same : (x : ℕ) → (nat_lt x 256 && is_term x (drop l.index l.form.terms) || has l.set x) ≡ (nat_lt x 256 && is_term x l.form.terms || has l.initial.set x);
}

abbrev pub decreases-loop-var : goal.decreases-loop-var
decreases-loop-var l = length l.form.terms - l.index
