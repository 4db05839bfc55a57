use Rattle.std.proofs.Common.{rules, arith, FitsSigned, ap, sym, ◌∙◌}
use mir.Syntax.{w128}
use Rattle.std.proofs.lemmas.Int.{ints, to_z-of_z}
use Rattle.og_search_rows.specs.Inequality.{sum_at}
use Rattle.og_search_rows.proofs.Limits.{cut_limit}
use Rattle.og_search_rows.proofs.inequality.Inequality.divided.Goals as goal

pub returns-in-Some-2 : goal.returns-in-Some-2
returns-in-Some-2 c = λ s.
    let d_fits : FitsSigned w128 c.args.divisor = c.ranges.divisor in
    let q_fits : FitsSigned w128 c.in-Some.constant = search rules in
    let r_fits : FitsSigned w128 c.args.self.now.constant = search rules in
    let e = simp to_z-of_z at c.in-Some.ensures.quotient in
    let f = rw c.in-Some-2.is at c.in_ok-terms.ensures in
    let g = simp to_z-of_z at (f s) in
    simp to_z-of_z
    (cut_limit c.args.divisor (sum_at c.args.self.now.terms.items s) (sum_at c.in-Some-2.terms.items s) c.args.self.now.constant c.in-Some.constant (omega (arith, ints))
    (ap (λ ts. sum_at ts s) (sym c.deref.ensures.value) ∙ g) e.0 e.1)
