use Rattle.std.proofs.Common.{◌≡◌, ℤ, ◌+ℤ◌, pos, length, rules, arith, FitsSigned, subst, sym}
use Rattle.std.specs.Prelude.{◌≤ℤ◌, ◌↔◌}
use mir.Syntax.{w128}
use Rattle.std.proofs.lemmas.Int.{to_z-of_z}
use Rattle.og_linear.specs.Linear.{value_at}
use Rattle.og_search_rows.specs.Bounds.{Meets}
use Rattle.og_search_rows.proofs.Sums.{sum_at-only}
use Rattle.og_search_rows.proofs.bounds.limit_of.Goals as goal

pub returns-clause-limit : goal.returns-clause-limit
returns-clause-limit c = λ s.
    let t = c.index-only.result.now in
    let l = c.in_ok-limit.limit in
    let k_fits : FitsSigned w128 t.coefficient = search rules in
    let r_fits : FitsSigned w128 c.args.form.now.constant = search rules in
    let f = simp to_z-of_z at (c.in_ok-limit.ensures.limit (value_at s t.var)) in
    let one : length c.args.form.now.terms.items ≡ 1 = omega arith in
    let whole = sum_at-only c.args.form.now.terms.items t s one c.index-only.ensures in
    subst (λ (z : ℤ). ((z +ℤ c.args.form.now.constant) ≤ℤ pos 0) ↔ Meets l.side l.value (value_at s t.var)) (sym whole) f
