use Rattle.std.proofs.Common.{◌+ℤ◌, ◌*ℤ◌, rules, ap₂, ◌∙◌, FitsSigned}
use mir.Syntax.{w128}
use Rattle.std.proofs.lemmas.Int.{to_z-of_z}
use Rattle.og_search_rows.specs.Inequality.{left_side}
use Rattle.og_search_rows.proofs.Following.{two_of}
use Rattle.og_search_rows.proofs.rows.Rows.sum_of.Goals as goal

pub returns : goal.returns
returns c = λ s.
    let m = c.times-a.result.times in
    let n = c.times-b.result.times in
    let m_fits : FitsSigned w128 c.from.result = search rules in
    let n_fits : FitsSigned w128 c.from-2.result = search rules in
    let sums = rw c.in-Some.is at c.in_ok-form.ensures in
    two_of c.args.self.now.rows c.args.first c.args.second s m n (left_side c.form.result.now s) (left_side c.form-2.result.now s) _
    (c.times-a.ensures.times ∙ to_z-of_z w128 c.from.result m_fits ∙ c.from.ensures) (c.times-b.ensures.times ∙ to_z-of_z w128 c.from-2.result n_fits ∙ c.from-2.ensures)
    (c.form.ensures s) (c.form-2.ensures s) (sums s ∙ ap₂ (λ x y. m *ℤ left_side x s +ℤ n *ℤ left_side y s) c.times-a.ensures.form c.times-b.ensures.form)
