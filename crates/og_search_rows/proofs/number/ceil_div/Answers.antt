use Rattle.std.proofs.Common.{ap, ◌∙◌, neg_ℤ, rules, FitsSigned}
use mir.Syntax.{w128}
use Rattle.std.proofs.lemmas.Int.{to_z-of_z}
use Rattle.og_search_rows.proofs.Quotients.{ceiling_of}
use Rattle.og_search_rows.proofs.number.ceil_div.Goals as goal

pub returns-clause-quotient : goal.returns-clause-quotient
returns-clause-quotient c =
    let n_fits : FitsSigned w128 c.in_ok-checked_neg.field-0 = search rules in
    let d_fits : FitsSigned w128 c.args.divisor = c.ranges.divisor in
    let f_fits : FitsSigned w128 c.floor_div.result = search rules in
    let known = simp to_z-of_z at c.floor_div.ensures in
    ceiling_of c.checked_neg-2.result _ c.args.a c.args.divisor c.in_ok-checked_neg.field-0 c.floor_div.result _
    (c.in_ok-checked_neg.ensures.1 ∙ ap neg_ℤ (to_z-of_z w128 c.args.a c.ranges.a))
    (to_z-of_z w128 c.floor_div.result f_fits)
    known.0 known.1
    c.checked_neg-2.ensures
