use Rattle.std.proofs.Common.{◌<◌, length, rules, FitsSigned, subst}
use mir.Syntax.{w128}
use Rattle.std.proofs.lemmas.Int.{to_z-of_z}
use Rattle.og_search_rows.specs.Bounds.{Within}
use Rattle.og_search_rows.proofs.Tighter.{tighter}
use Rattle.og_search_rows.proofs.Trail.{leads_back}
use Rattle.og_search_rows.proofs.bounds.Bounds.take.Goals as goal

pub returns-clause-tighter : goal.returns-clause-tighter
returns-clause-tighter c = λ s w.
    let l = c.in-Some.limit in
    let v_fits : FitsSigned w128 l.value = search rules in
    let e = simp to_z-of_z at c.in_ok-set.ensures.intervals in
    let within : c.in-Some.var < length c.args.self.now.intervals = search rules in
    let t = tighter c.args.self.now.intervals c.in-Some.var l.side (record { value = l.value; row = c.args.row }) s within (c.is_improved_by.ensures.0 c.if-not-is_improved_by.false) (subst (λ b. Within b s) e w) in
    (t.0, (c.in-Some.ensures.limit s).1 t.1)

pub returns-clause-back : goal.returns-clause-back
returns-clause-back c = leads_back _ _ c.in-Some.var _ c.in_ok-set.ensures.intervals c.in_ok-set.ensures.trail

pub returns-in_default-clause-known : goal.returns-in_default-clause-known
returns-in_default-clause-known c = λ is s w. absurd (c.in_default.ensures.none _ is)
