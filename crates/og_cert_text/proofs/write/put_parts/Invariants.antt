use Rattle.std.proofs.Common.{◌≡◌, ◌≤◌, ◌-◌, ◌++◌, drop, length}
use Rattle.og_cert_text.specs.Lines.{parts_text}
use Rattle.og_cert_text.proofs.write.put_parts.Given as goal

abbrev pub invariant-loop-v : goal.invariant-loop-v
invariant-loop-v l = record {
  so_far : l.text.items ++ parts_text (drop l.i l.form.terms) ≡ l.initial.text.items ++ parts_text l.form.terms;
  within : l.i ≤ length l.form.terms;
}

abbrev pub decreases-loop-v : goal.decreases-loop-v
decreases-loop-v l = length l.form.terms - l.i
