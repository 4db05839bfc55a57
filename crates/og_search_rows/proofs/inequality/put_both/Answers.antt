use Rattle.std.proofs.Common.{◌+ℤ◌, FitsSigned, rules, ap, ◌∙◌}
use mir.Syntax.{w128}
use Rattle.std.proofs.lemmas.Int.{to_z-of_z}
use Rattle.og_search_rows.specs.Inequality.{sum_at}
use Rattle.og_search_rows.proofs.Sums.{both_of}
use Rattle.og_search_rows.proofs.inequality.put_both.Goals as goal

pub returns : goal.returns
returns c = λ _ s.
    let m_fits : FitsSigned w128 c.args.m = c.ranges.m in
    let n_fits : FitsSigned w128 c.args.k = c.ranges.k in
    let x_fits : FitsSigned w128 c.args.x.coefficient = search rules in
    let y_fits : FitsSigned w128 c.args.y.coefficient = search rules in
    let k_fits : FitsSigned w128 c.in-Some.coefficient = search rules in
    let e = simp to_z-of_z at c.in-Some.ensures in
    let f = simp to_z-of_z at (c.in_ok-put.ensures s) in
    f ∙ ap (λ z. sum_at c.args.terms.now.items s +ℤ z) (both_of c.args.x c.args.y s c.args.m c.args.k c.in-Some.coefficient c.requires e)
