use Rattle.std.proofs.Common.{◌<◌, ℕ, ℤ, pos, length, FitsSigned, arith, get_or, rules, sym, ◌∙◌, ap, Vec, Global}
use mir.Syntax.{w128}
use Rattle.std.proofs.lemmas.Int.{to_z-of_z}
use Rattle.og_linear.specs.Arith.{scale_terms}
use Rattle.og_linear.specs.Answer.{checked_terms}
use Rattle.og_linear.proofs.Steps.{scale_turn, scale_fails, scale_end, fails_from}
use Rattle.std.proofs.lemmas.Result.{err_from_is_err_and}
use Rattle.og_linear.proofs.terms.multiples.Goals as goal

pub loop-t-preserved : goal.loop-t-preserved
loop-t-preserved c =
    let range : FitsSigned w128 (get_or c.args.terms.now c.loop-t.t-index (0, pos 0)).1 = search rules in
    let fit : FitsSigned w128 c.in_ok-c.c = search rules in
    let below : c.loop-t.t-index < length c.args.terms.now = omega arith in
    scale_turn _ _ c.in_ok-c.c _ c.args.terms.now c.loop-t.out.items _ c.loop-t.t-index below
    (to_z-of_z w128 (get_or c.args.terms.now c.loop-t.t-index (0, pos 0)).1 range) c.in_ok-c.ensures.answer (to_z-of_z w128 c.in_ok-c.c fit) c.in_ok-push_term.ensures.added
    ∙ c.loop-t.invariant

pub returns-in_err-c : goal.returns-in_err-c
returns-in_err-c c =
    let terms = c.args.terms.now in
    let range : FitsSigned w128 (get_or terms c.loop-t.t-index (0, pos 0)).1 = search rules in
    let below : c.loop-t.t-index < length terms = omega arith in
    let p = err_from_is_err_and c.from_residual-in_err-c.result c.from_residual-in_err-c.ensures.1 in
    rw p.1 (fails_from (λ (v : Vec (ℕ × ℤ) Global). v.items) c.in_err-c.field-0.0 p.0 _ (checked_terms (scale_terms c.args.k terms)) c.in_err-c.ensures.answer p.2
    (λ none. ap (λ k. checked_terms (scale_terms k terms)) (sym (to_z-of_z w128 c.args.k c.ranges.k)) ∙ scale_fails _ _ terms c.loop-t.out.items c.loop-t.t-index _ below (to_z-of_z w128 _ range) none c.loop-t.invariant))

pub returns : goal.returns
returns c =
    ap (λ k. checked_terms (scale_terms k c.args.terms.now)) (sym (to_z-of_z w128 c.args.k c.ranges.k))
    ∙ scale_end _ c.args.terms.now c.loop-t.out.items c.loop-t.t-index _ (omega arith) c.loop-t.invariant
