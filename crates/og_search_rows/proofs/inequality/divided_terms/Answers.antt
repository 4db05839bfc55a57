use Rattle.std.proofs.Common.{◌≡◌, ℤ, ◌+ℤ◌, ◌*ℤ◌, rules, FitsSigned, to_z, of_z, get_or, ap, sym, ◌∙◌}
use mir.Syntax.{w128}
use Rattle.std.proofs.lemmas.Int.{to_z-of_z}
use Rattle.og_linear.specs.Linear.{value_at}
use Rattle.og_search_rows.specs.Inequality.{sum_at}
use Rattle.og_search_rows.proofs.Sums.{sum_at-push, divide_turn, divide_end}
use Rattle.og_search_rows.proofs.Merges.{no_term}
use Rattle.og_search_rows.proofs.inequality.divided_terms.Goals as goal

pub loop-term-preserved : goal.loop-term-preserved
loop-term-preserved c = λ s.
    let i = c.loop-term.term-index in
    let t = get_or c.args.terms.now i no_term in
    let m = to_z w128 (of_z w128 c.args.divisor) in
    let q = c.in-Some.coefficient in
    let range : FitsSigned w128 t.coefficient = search rules in
    let fits : FitsSigned w128 q = search rules in
    let old = sum_at c.loop-term.out.items s in
    let put : sum_at c.push.new.self.items s ≡ old +ℤ q *ℤ value_at s t.var =
    ap (λ ts. sum_at ts s) c.in_ok-push.ensures.items
    ∙ sum_at-push c.loop-term.out.items (record { var = t.var; coefficient = to_z w128 (of_z w128 q) }) s
    ∙ ap (λ (z : ℤ). old +ℤ z *ℤ value_at s t.var) (to_z-of_z w128 q fits) in
    divide_turn c.args.terms.now s i no_term m q old (sum_at c.push.new.self.items s) _ c.loop-term-test.true (sym (to_z-of_z w128 t.coefficient range) ∙ c.in-Some.ensures) put
    (c.loop-term.invariant s)

pub returns : goal.returns
returns c = λ s.
    let m = to_z w128 (of_z w128 c.args.divisor) in
    divide_end c.args.terms.now s c.loop-term.term-index m (sum_at c.loop-term.out.items s) _ c.loop-term-test.false (c.loop-term.invariant s)
    ∙ ap (λ (z : ℤ). z *ℤ sum_at c.loop-term.out.items s) (to_z-of_z w128 c.args.divisor c.ranges.divisor)
