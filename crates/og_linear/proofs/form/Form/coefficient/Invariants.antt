use Rattle.std.proofs.Common.{◌≡◌, drop}
use Rattle.og_linear.specs.Replaced.{coefficient}
use Rattle.og_linear.proofs.form.Form.coefficient.Given as goal

abbrev pub invariant-loop-t : goal.invariant-loop-t
invariant-loop-t l = coefficient l.var (drop l.t-index l.t-items) ≡ coefficient l.var l.t-items
