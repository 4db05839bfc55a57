use Rattle.std.proofs.Common.{rules, arith, FitsSigned, of_z, ap}
use mir.Syntax.{w128}
use Rattle.std.proofs.lemmas.Int.{ints, to_z-of_z}
use Rattle.og_search_rows.proofs.Limits.{upper_limit, lower_limit, above_zero}
use Rattle.og_search_rows.proofs.bounds.Limit.of.Goals as goal

pub returns-then-coefficient-gt0-clause-limit : goal.returns-then-coefficient-gt0-clause-limit
returns-then-coefficient-gt0-clause-limit c = λ x.
    let k_fits : FitsSigned w128 c.args.coefficient = c.ranges.coefficient in
    let r_fits : FitsSigned w128 c.args.rest = c.ranges.rest in
    let n_fits : FitsSigned w128 c.in_ok-checked_neg.field-0 = search rules in
    let q_fits : FitsSigned w128 c.floor_div-value.result = search rules in
    let e = simp to_z-of_z at c.floor_div-value.ensures in
    let f = simp to_z-of_z at c.in_ok-checked_neg.ensures in
    simp to_z-of_z (upper_limit c.args.coefficient c.args.rest c.floor_div-value.result x (omega (arith, ints)) (omega (arith, ints, e.0, f.1)) (omega (arith, ints, e.1, f.1)))

pub returns-clause-limit : goal.returns-clause-limit
returns-clause-limit c = λ x.
    let k_fits : FitsSigned w128 c.args.coefficient = c.ranges.coefficient in
    let r_fits : FitsSigned w128 c.args.rest = c.ranges.rest in
    let o_fits : FitsSigned w128 c.in_ok-opposite.opposite = search rules in
    let q_fits : FitsSigned w128 c.in_ok-value.value = search rules in
    let e = simp to_z-of_z at c.in_ok-value.ensures.quotient in
    let f = simp to_z-of_z at c.in_ok-opposite.ensures in
    let positive = above_zero c.in_ok-opposite.opposite (omega (arith, ints, f.1)) (λ z. c.if-opposite-eq0.false (ap (of_z w128) z)) in
    simp to_z-of_z (lower_limit c.args.coefficient c.in_ok-opposite.opposite c.args.rest c.in_ok-value.value x (omega (arith, ints, f.1)) positive e.0 e.1)
