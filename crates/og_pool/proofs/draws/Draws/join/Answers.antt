use Rattle.std.proofs.Common.{◌≡◌, ◌<◌, ◌⊎◌, ◌↔◌, true, false, sym, ap, ◌∙◌, subst, inl, inr, arith, ℕ, List}
use Rattle.og_pool.specs.declared.rule.Hand.{Hand}
use Rattle.og_pool.specs.Drawing.{Part, Source, past}
use Rattle.og_pool.proofs.Steps.{joins_keep, either_past}
use Rattle.og_pool.proofs.draws.Draws.join.Goals as goal
use Rattle.og_pool.proofs.draws.Draws.join.Goals.{then-drawer, else-drawer}

pub join_seat-requires : goal.join_seat-requires
join_seat-requires c =
    let mine = ap (λ (d : Part). d.source) c.drawer.view_is ∙ c.requires.0 ∙ sym c.self.view_is in
    let theirs = ap (λ (d : Part). d.source) c.other.view_is ∙ c.requires.1 ∙ sym c.self.view_is in
    (ap (λ (z : Source). z.table) mine, ap (λ (z : Source). z.table) theirs, c.other.invariant.0, omega (arith, c.self.invariant.0), joins_keep _ _ _ _ _ c.drawer.invariant.1)

pub invariant_of-drawer : goal.invariant_of-drawer
invariant_of-drawer c =
    let mine = ap (λ (d : Part). d.source) c.drawer.view_is ∙ c.requires.0 ∙ sym c.self.view_is in
    let theirs = ap (λ (d : Part). d.source) c.other.view_is ∙ c.requires.1 ∙ sym c.self.view_is in
    let n = c.drawer.inside.plan.count in
    let count = ap (λ (z : Source). z.count) theirs ∙ sym (ap (λ (z : Source). z.count) mine) in
    let me = c.join_seat.ensures.2 in
    let hand_is = ap (λ (m : Hand × List (ℕ × Unit {0})). m.0) me in
    let d = c.drawer.invariant in
    let o = c.other.invariant in
    let other_past = subst (λ (k : ℕ). (c.other.inside.done ≡ true) ↔ (0 < past k c.other.inside.seat.me.0.drawn)) count o.2 in
    let cases : ((c.drawer.inside.done ≡ true) × (c.if-drawer.drawer ≡ true)) ⊎ ((c.drawer.inside.done ≡ false) × (c.if-drawer.drawer ≡ c.other.inside.done)) =
    elim c.if-drawer.branch [ then-drawer w ↦ inl (w.if-drawer.true, w.drawer-is ∙ w.if-drawer.true) | else-drawer w ↦ inr (w.if-drawer.false, w.drawer-is) ] in
    let some = d.1 in
    let workers = ap (λ (h : Hand). h.workers) hand_is in (
      ap (λ (m : Hand × List (ℕ × Unit {0})). m.1) me ∙ d.0,
      omega arith,
      either_past n _ _ _ _ _ _ (ap (λ (h : Hand). h.drawn) hand_is) d.2 other_past cases,
    )
