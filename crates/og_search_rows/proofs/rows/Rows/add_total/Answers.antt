use Rattle.std.proofs.Common.{ℕ, ap, ◌∙◌, subst}
use Rattle.og_search_rows.specs.Rows.{HoldsAt, weighted}
use Rattle.og_search_rows.proofs.Following.{sum_justified}
use Rattle.og_search_rows.proofs.rows.Rows.add_total.Goals as goal

pub add-requires : goal.add-requires
add-requires c = λ s proper all _.
    let sums = rw c.in-Some.is at c.in_ok-form.ensures.total in
    let before = subst (λ v. (i : ℕ) → HoldsAt v.rows i s) c.total.ensures.same all in
    sum_justified c.args.self.now.rows c.args.sum.items c.in-Some.form s (sums s ∙ ap (λ ps. weighted c.args.self.now.rows ps s) c.deref.ensures.value) before
