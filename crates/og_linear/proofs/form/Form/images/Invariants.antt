use Rattle.std.proofs.Common.{◌≡◌, drop}
use Rattle.og_linear.specs.Bounded.{apply_terms, apply}
use Rattle.og_linear.proofs.form.Form.images.Given as goal

abbrev pub invariant-loop-t : goal.invariant-loop-t
invariant-loop-t l = apply_terms l.map (drop l.t-index l.t-items) l.sum ≡ apply l.map l.self
