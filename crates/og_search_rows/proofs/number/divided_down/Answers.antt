use Rattle.std.proofs.Common.{rules, FitsSigned}
use mir.Syntax.{w128}
use Rattle.std.proofs.lemmas.Int.{to_z-of_z}
use Rattle.og_search_rows.proofs.Quotients.{floor_of}
use Rattle.og_search_rows.proofs.number.divided_down.Goals as goal

pub returns : goal.returns
returns c =
    let q_fits : FitsSigned w128 c.div_euclid.result = search rules in
    simp to_z-of_z (floor_of c.div_euclid.result c.args.a c.args.divisor _ _ (to_z-of_z w128 c.args.a c.ranges.a) (to_z-of_z w128 c.args.divisor c.ranges.divisor) c.requires c.div_euclid.ensures)
