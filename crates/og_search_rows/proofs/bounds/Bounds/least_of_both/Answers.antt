use Rattle.std.proofs.Common.{rules, arith, FitsSigned}
use mir.Syntax.{w128}
use Rattle.std.proofs.lemmas.Int.{ints, to_z-of_z}
use Rattle.std.proofs.lemmas.Option.{IfSome_then}
use Rattle.og_search_rows.proofs.Sums.{sum_of_both}
use Rattle.og_search_rows.proofs.bounds.Bounds.least_of_both.Goals as goal

pub returns : goal.returns
returns c = IfSome_then c.least_of.result c.least_of.ensures (λ v p s w.
    let x_fits : FitsSigned w128 c.args.x.coefficient = search rules in
    let y_fits : FitsSigned w128 c.args.y.coefficient = search rules in
    let k_fits : FitsSigned w128 c.in_ok-coefficient.coefficient = search rules in
    let e = simp to_z-of_z at c.in_ok-coefficient.ensures in
    let least = simp to_z-of_z at (p s w) in
    omega (arith, ints, least, sum_of_both c.args.x c.args.y s c.in_ok-coefficient.coefficient c.requires e.1))
