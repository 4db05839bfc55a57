use Rattle.std.proofs.Common.{◌∷◌, []}
use Rattle.og_search_rows.proofs.Following.{sum_justified}
use Rattle.og_search_rows.proofs.rows.Rows.add_sum.Goals as goal

pub add-requires : goal.add-requires
add-requires c = λ s proper all _.
    let sums = rw c.in-Some.is at c.in_ok-form.ensures in
    sum_justified c.self.inside.rows.items (c.args.first ∷ c.args.second ∷ []) c.in-Some.form s (sums s) all
