use Rattle.std.proofs.Common.{◌≢◌, ◌+◌, ◌++◌, pos, take, drop, set, of_z, sym, ap, ◌∙◌}
use mir.Syntax.{w128}
use Rattle.std.proofs.lemmas.Int.{to_z-of_z}
use Rattle.og_cert.proofs.Sums.{set_at, term_alone}
use Rattle.og_cert.proofs.sum.put_at.Goals as goal

pub returns-else-c-eq0 : goal.returns-else-c-eq0
returns-else-c-eq0 c =
    let ts = c.args.terms.now.items in
    let p = c.args.place in
    let v = c.args.var in
    let d = c.args.c in
    let other : d ≢ pos 0 = λ e. c.if-c-eq0.false (ap (of_z w128) e) in
    ap (λ z. set ts p (v, z)) (to_z-of_z w128 d c.ranges.c)
    ∙ set_at ts p (v, d) c.requires
    ∙ ap (λ us. take p ts ++ us) (sym (term_alone v d (drop (p + 1) ts) other))
