use Rattle.std.proofs.Common.{◌<◌, pos, length, FitsSigned, arith, get_or, rules, sym, ◌∙◌, ap}
use mir.Syntax.{w128}
use Rattle.std.proofs.lemmas.Int.{to_z-of_z}
use Rattle.og_linear.specs.Answer.{divided_terms}
use Rattle.og_linear.proofs.Steps.{divide_turn, divide_end}
use Rattle.og_linear.proofs.terms.quotients.Goals as goal

pub loop-t-preserved : goal.loop-t-preserved
loop-t-preserved c =
    let range : FitsSigned w128 (get_or c.args.terms.now c.loop-t.t-index (0, pos 0)).1 = search rules in
    let fit : FitsSigned w128 c.in_ok-c.c = search rules in
    let below : c.loop-t.t-index < length c.args.terms.now = omega arith in
    divide_turn _ _ c.in_ok-c.c _ c.args.terms.now c.loop-t.out.items _ c.loop-t.t-index below
    (to_z-of_z w128 (get_or c.args.terms.now c.loop-t.t-index (0, pos 0)).1 range) c.in_ok-c.ensures.answer (to_z-of_z w128 c.in_ok-c.c fit) c.in_ok-push.ensures.items
    ∙ c.loop-t.invariant

pub returns : goal.returns
returns c =
    ap (λ k. divided_terms k c.args.terms.now) (sym (to_z-of_z w128 c.args.d c.ranges.d))
    ∙ divide_end _ c.args.terms.now c.loop-t.out.items c.loop-t.t-index _ (omega arith) c.loop-t.invariant
