use Rattle.std.proofs.Common.{◌<◌, below_more, get_or, subst, sym, arith}
use Rattle.std.specs.Prelude.{slice_get}
use Rattle.std.proofs.lemmas.Grind.{get_or_default_zero}
use Rattle.og_search_rows.specs.Rows.{HoldsAt}
use Rattle.og_search_rows.proofs.Following.{holds_by_left}
use Rattle.og_search_rows.proofs.rows.Rows.all_hold.Goals as goal

pub loop-row-preserved : goal.loop-row-preserved
loop-row-preserved c =
    below_more _ _ c.loop-row.invariant
    (holds_by_left (slice_get c.args.self.now.rows (get_or c.args.rows.now c.loop-row.row-index 0)) c.args.model.now _ (c.form.ensures c.args.model.now) (c.holds.ensures c.if-not-holds.false))

pub returns : goal.returns
returns c = λ _ k d h.
    let below : k < c.loop-row.row-index = omega (arith, h) in
    subst (λ i. HoldsAt c.args.self.now.rows i c.args.model.now) (sym (get_or_default_zero c.args.rows.now k d h)) (c.loop-row.invariant k below)
