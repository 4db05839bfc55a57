use Rattle.std.proofs.Common.{pos, arith, ap₂, ◌∙◌, sym}
use mir.Syntax.{w128}
use Rattle.std.specs.Prelude.{◌≤ℤ◌}
use Rattle.std.proofs.lemmas.Int.{ints, to_z-of_z}
use Rattle.og_linear.specs.Answer.{divided_terms}
use Rattle.og_linear.proofs.Steps.{divided_tidy}
use Rattle.og_linear.proofs.form.Form.cut.Goals as goal

pub invariant_of-result : goal.invariant_of-result
invariant_of-result c =
    let positive : pos 1 ≤ℤ c.args.d = omega (arith, ints) in
    divided_tidy c.args.d c.self.inside.terms.items c.in_ok-terms.terms.items positive
    (ap₂ divided_terms (sym (to_z-of_z w128 c.args.d c.ranges.d)) (sym c.deref.ensures.value) ∙ c.in_ok-terms.ensures) c.self.invariant
