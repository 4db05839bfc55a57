use Rattle.std.proofs.Common.{sym, ap, ◌∙◌}
use Rattle.og_pool.specs.declared.rule.Plan.{Plan}
use Rattle.og_pool.specs.Drawing.{Part, Source, times}
use Rattle.og_pool.proofs.Steps.{closes}
use Rattle.og_pool.proofs.draws.Draws.close.Goals as goal

pub returns : goal.returns
returns c = λ some x below.
    let v = c.close_with.ensures.values in
    let s = c.self.invariant in
    let count = ap (λ (p : Plan). p.count) s.2 ∙ ap (λ (z : Source). z.count) c.self.view_is in
    let workers = ap (λ (p : Plan). p.workers) s.2 ∙ ap (λ (z : Source). z.workers) c.self.view_is in
    let mine = ap (λ (d : Part). d.workers) c.drawer.view_is in
    let drawn = ap (λ (d : Part). d.drawn) c.drawer.view_is in
    let got = closes _ _ _ _ _ v.2 (mine ∙ c.requires.all ∙ sym workers) (rw (count, drawn) some) x (rw count below) in
    ap (times x) (sym drawn) ∙ got
