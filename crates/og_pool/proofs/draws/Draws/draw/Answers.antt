use Rattle.std.proofs.Common.{◌≡◌, ◌+◌, ◌-◌, ◌<◌, true≢false, [], ◌∷◌, ◌++◌, sym, ap, ◌∙◌, subst, refl, arith, ℕ, List}
use Rattle.og_pool.specs.declared.rule.Hand.{Hand}
use Rattle.og_pool.specs.Drawing.{past, Part, Source}
use Rattle.og_pool.specs.declared.rule.Plan.{Plan}
use Rattle.og_pool.proofs.Steps.{draws_keep, none_yet, still_none, now_some, times_far}
use Rattle.og_pool.proofs.draws.Draws.draw.Goals as goal

pub fetch_add-found-requires : goal.fetch_add-found-requires
fetch_add-found-requires c =
    let same = ap (λ (d : Part). d.source) c.drawer.view_is ∙ c.requires ∙ sym c.self.view_is in
    let s = c.self.invariant in
    let d = c.drawer.invariant in
    let count = ap (λ (p : Plan). p.count) s.2 in
    let workers = ap (λ (p : Plan). p.workers) s.2 in
    let same_count = ap (λ (z : Source). z.count) same in
    let none = none_yet c.drawer.inside.done (past c.drawer.inside.plan.count c.drawer.inside.seat.me.0.drawn) c.if-drawer.false d.2.1 in
    (ap (λ (z : Source). z.table) same, omega (arith, s.0), draws_keep _ _ _ _ (omega (arith, s.3)) (omega (arith, s.4)) (ap (λ (n : ℕ). past n c.drawer.inside.seat.me.0.drawn) (count ∙ sym same_count) ∙ none) d.1)

pub invariant_of-drawer : goal.invariant_of-drawer
invariant_of-drawer c =
    let same = ap (λ (z : Source). z.count) (ap (λ (d : Part). d.source) c.drawer.view_is ∙ c.requires ∙ sym c.self.view_is) in
    let d = c.drawer.invariant in
    let play = c.fetch_add-found.ensures.2 in
    let none = still_none c.drawer.inside.plan.count c.drawer.inside.seat.me.0.drawn c.fetch_add-found.new.seat.me.0.drawn c.fetch_add-found.result c.drawer.inside.done (ap (λ (h : Hand). h.drawn) play.0) c.if-drawer.false d.2.1 (omega (arith, c.if-found-from.true, c.from.ensures, same)) in
    (play.1 ∙ d.0, subst (λ (h : ℕ). 0 < h) (sym (ap (λ (h : Hand). h.workers) play.0)) d.1, ((λ e. absurd (true≢false (sym e ∙ c.if-drawer.false))), (λ some. absurd (omega arith))))

pub invariant_of-drawer-else-found-from : goal.invariant_of-drawer-else-found-from
invariant_of-drawer-else-found-from c =
    let same = ap (λ (z : Source). z.count) (ap (λ (d : Part). d.source) c.drawer.view_is ∙ c.requires ∙ sym c.self.view_is) in
    let d = c.drawer.invariant in
    let play = c.fetch_add-found.ensures.2 in
    let some = now_some c.drawer.inside.plan.count c.drawer.inside.seat.me.0.drawn c.fetch_add-found.new.seat.me.0.drawn c.fetch_add-found.result c.drawer.inside.done (ap (λ (h : Hand). h.drawn) play.0) c.if-drawer.false d.2.1 (omega (arith, c.if-found-from.false, c.from.ensures, same)) in
    (play.1 ∙ d.0, subst (λ (h : ℕ). 0 < h) (sym (ap (λ (h : Hand). h.workers) play.0)) d.1, ((λ e. some), (λ _. refl)))

pub returns-then-found-from-clause-some : goal.returns-then-found-from-clause-some
returns-then-found-from-clause-some c =
    let same = ap (λ (z : Source). z.count) (ap (λ (d : Part). d.source) c.drawer.view_is ∙ c.requires ∙ sym c.self.view_is) in
    let now = ap (λ (z : Source). z.count) c.self.view_is in
    let d = c.drawer.invariant in
    let play = c.fetch_add-found.ensures.2 in
    let drawn = ap (λ (h : Hand). h.drawn) play.0 in
    let none = still_none c.drawer.inside.plan.count c.drawer.inside.seat.me.0.drawn c.fetch_add-found.new.seat.me.0.drawn c.fetch_add-found.result c.drawer.inside.done drawn c.if-drawer.false d.2.1 (omega (arith, c.if-found-from.true, c.from.ensures, same)) in
    let one : c.fetch_add-found.result ≡ c.fetch_add-found.result + 1 - 1 = omega arith in
    (omega arith, omega (arith, c.if-found-from.true, c.from.ensures, now), drawn ∙ (λ i. ap (λ (p : Part). p.drawn) c.drawer.view_is i ++ one i ∷ []), ap (λ (n : ℕ). past n c.fetch_add-found.new.seat.me.0.drawn) (sym (same ∙ now)) ∙ none)

pub returns-else-found-from-clause-none : goal.returns-else-found-from-clause-none
returns-else-found-from-clause-none c =
    let same = ap (λ (z : Source). z.count) (ap (λ (d : Part). d.source) c.drawer.view_is ∙ c.requires ∙ sym c.self.view_is) in
    let now = ap (λ (z : Source). z.count) c.self.view_is in
    let d = c.drawer.invariant in
    let play = c.fetch_add-found.ensures.2 in
    let some = now_some c.drawer.inside.plan.count c.drawer.inside.seat.me.0.drawn c.fetch_add-found.new.seat.me.0.drawn c.fetch_add-found.result c.drawer.inside.done (ap (λ (h : Hand). h.drawn) play.0) c.if-drawer.false d.2.1 (omega (arith, c.if-found-from.false, c.from.ensures, same)) in
    subst (λ (n : ℕ). 0 < past n c.fetch_add-found.new.seat.me.0.drawn) (same ∙ now) some

pub returns-else-found-from-clause-seen : goal.returns-else-found-from-clause-seen
returns-else-found-from-clause-seen c = λ x less.
    let now = ap (λ (z : Source). z.count) c.self.view_is in
    let drawn = ap (λ (h : Hand). h.drawn) c.fetch_add-found.ensures.2.0 ∙ ap (λ (l : List ℕ). l ++ c.fetch_add-found.result ∷ []) (ap (λ (p : Part). p.drawn) c.drawer.view_is) in
    times_far x c.args.self.now.count c.fetch_add-found.result c.args.drawer.now.drawn _ drawn (omega (arith, c.if-found-from.false, c.from.ensures, now)) less
