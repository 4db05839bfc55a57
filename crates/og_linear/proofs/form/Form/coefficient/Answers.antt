use Rattle.std.proofs.Common.{pos, get_or, rules, FitsSigned, ◌∙◌, ap}
use mir.Syntax.{w128}
use Rattle.std.proofs.lemmas.Int.{to_z-of_z}
use Rattle.og_linear.specs.Replaced.{coefficient}
use Rattle.og_linear.proofs.Coefficients.{coefficient_at}
use Rattle.og_linear.proofs.form.Form.coefficient.Goals as goal

pub returns-then-var-t : goal.returns-then-var-t
returns-then-var-t c =
    let terms = c.deref-t-items.result.now in
    let range : FitsSigned w128 (get_or terms c.loop-t.t-index (0, pos 0)).1 = search rules in
    to_z-of_z w128 _ range
    ∙ coefficient_at terms c.loop-t.t-index c.args.var c.loop-t-test.true c.if-var-t.true
    ∙ c.loop-t.invariant
    ∙ ap (coefficient c.args.var) (c.deref-t-items.ensures.value ∙ ap (λ f. f.terms) c.self.view_is)
