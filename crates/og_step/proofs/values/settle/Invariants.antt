use Rattle.std.proofs.Common.{◌≡◌, ℕ, drop, map, length, false}
use Rattle.std.specs.List.{AllByRecursion}
use Rattle.og_linear.specs.Linear.{value_at}
use Rattle.og_typed.specs.Plain.{simple}
use Rattle.og_typed.specs.Rule.{IsUsableSimple}
use Rattle.og_step.specs.Actions.{assigns}
use Rattle.og_step.proofs.values.settle.Given as goal

abbrev pub invariant-loop-basic : goal.invariant-loop-basic
invariant-loop-basic l = record {
  long : length l.to ≡ length l.from;
  usable : AllByRecursion (IsUsableSimple (length l.from)) (map simple (drop l.basic-index l.body));
  others : (x : ℕ) → assigns x (map simple (drop l.basic-index l.body)) ≡ false → value_at l.to x ≡ value_at l.from x;
}
