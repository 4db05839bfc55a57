use Rattle.std.proofs.Common.{◌≡◌, ℕ, drop, map, length, false}
use Rattle.std.specs.List.{AllByRecursion}
use Rattle.og_linear.specs.Linear.{value_at}
use Rattle.og_typed.specs.Plain.{simple}
use Rattle.og_typed.specs.Machine.{act, all_fit}
use Rattle.og_typed.specs.Rule.{IsUsableSimple}
use Rattle.og_step.specs.Actions.{assigns}
use Rattle.og_step.proofs.values.run.Given as goal

abbrev pub invariant-loop-basic : goal.invariant-loop-basic
invariant-loop-basic l = record {
  fits : all_fit (map simple (drop l.basic-index l.body)) l.state ≡ all_fit (map simple l.body) l.initial.state;
  done : act (map simple (drop l.basic-index l.body)) l.state ≡ act (map simple l.body) l.initial.state;
  long : length l.state ≡ length l.initial.state;
  usable : AllByRecursion (IsUsableSimple (length l.initial.state)) (map simple (drop l.basic-index l.body));
  others : (x : ℕ) → assigns x (map simple l.body) ≡ false → value_at l.state x ≡ value_at l.initial.state x;
}
