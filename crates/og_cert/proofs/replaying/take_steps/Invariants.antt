use Rattle.std.proofs.Common.{◌≡◌, ◌+◌, take, drop, length}
use Rattle.og_cert_text.specs.Tree.{Cert}
use Rattle.og_cert_text.specs.Plain.{with_steps}
use Rattle.og_cert.specs.Faults.{fault_from}
use Rattle.og_cert.specs.Held.{facts_held}
use Rattle.og_cert.proofs.replaying.take_steps.Given as goal

abbrev pub invariant-loop-step : goal.invariant-loop-step
invariant-loop-step l = record {
  line : l.next ≡ l.line + l.step-index;
  kept : take (length l.fn.held.items) l.held.items ≡ l.fn.held.items;
  rest : (c : Cert) → fault_from l.line l.variables (facts_held l.fn.held.items) (with_steps l.steps c) ≡ fault_from l.next l.variables (facts_held l.held.items) (with_steps (drop l.step-index l.steps) c);
}
