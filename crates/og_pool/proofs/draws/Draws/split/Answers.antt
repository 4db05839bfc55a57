use Rattle.std.proofs.Common.{sym, ap, ◌∙◌, arith, div-le_self}
use Rattle.og_pool.specs.Drawing.{Part, Source}
use Rattle.og_pool.proofs.Steps.{splits_keep}
use Rattle.og_pool.proofs.draws.Draws.split.Goals as goal

pub split_seat-seat-requires : goal.split_seat-seat-requires
split_seat-seat-requires c =
    let same = ap (λ (d : Part). d.source) c.drawer.view_is ∙ c.requires.own ∙ sym c.self.view_is in
    let drawn = ap (λ (d : Part). d.drawn) c.drawer.view_is in
    let half = div-le_self c.drawer.inside.seat.me.0.workers 2 in
    (ap (λ (z : Source). z.table) same, omega (arith, c.self.invariant.0), splits_keep _ _ _ _ half (drawn ∙ c.requires.fresh))
