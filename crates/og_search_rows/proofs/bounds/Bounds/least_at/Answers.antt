use Rattle.std.proofs.Common.{FitsSigned, rules}
use mir.Syntax.{w128}
use Rattle.std.proofs.lemmas.Int.{to_z-of_z}
use Rattle.og_search_rows.proofs.Extremes.{at_least_side}
use Rattle.og_search_rows.proofs.bounds.Bounds.least_at.Goals as goal

pub returns : goal.returns
returns c = λ s w.
    let k = c.args.term.coefficient in
    let fits : FitsSigned w128 k = search rules in
    let side = simp to_z-of_z at c.of_least.ensures in
    rw (c.get.ensures, side) (at_least_side c.args.self.now.intervals k c.args.term.var s w)
