use Rattle.std.proofs.Common.{FitsSigned, rules}
use mir.Syntax.{w128}
use Rattle.std.proofs.lemmas.Int.{to_z-of_z}
use Rattle.og_search_rows.specs.Inequality.{sum_at}
use Rattle.og_search_rows.proofs.Sums.{sum_parts}
use Rattle.og_search_rows.proofs.inequality.Inequality.sum_in.Goals as goal

pub returns-in-Some-2 : goal.returns-in-Some-2
returns-in-Some-2 c = λ s.
    let m_fits : FitsSigned w128 c.args.first.times = search rules in
    let n_fits : FitsSigned w128 c.args.second.times = search rules in
    let a_fits : FitsSigned w128 c.args.first.form.now.constant = search rules in
    let b_fits : FitsSigned w128 c.args.second.form.now.constant = search rules in
    let c_fits : FitsSigned w128 c.in-Some.constant = search rules in
    let e = simp to_z-of_z at c.in-Some.ensures in
    let f = rw c.in-Some-2.is at c.in_ok-terms.ensures in
    simp to_z-of_z (sum_parts c.args.first.times c.args.second.times (sum_at c.args.first.form.now.terms.items s) (sum_at c.args.second.form.now.terms.items s) c.args.first.form.now.constant
    c.args.second.form.now.constant _ _ (f s) e)
