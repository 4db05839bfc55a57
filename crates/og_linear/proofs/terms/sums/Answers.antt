use Rattle.std.proofs.Common.{◌<◌, ◌≤◌, ℤ, pos, length, ℕ, FitsSigned, arith, get_or, rules, ◌∙◌, ◌⊎◌, inl, inr, Vec, Global}
use Rattle.std.proofs.lemmas.Grind.{common_steps}
use mir.Syntax.{w128}
use Rattle.std.proofs.lemmas.Int.{to_z-of_z}
use Rattle.og_linear.proofs.Steps.{merge_left, merge_right, merge_both, merge_fails, merge_end, fails_from}
use Rattle.std.proofs.lemmas.Result.{err_from_is_err_and}
use Rattle.og_linear.specs.Arith.{merge}
use Rattle.og_linear.specs.Answer.{checked_terms}
use Rattle.og_linear.proofs.terms.sums.Goals as goal
use Rattle.og_linear.proofs.terms.sums.Goals.{then-both-test+else-j-b, else-both-test}

pub both-preserved-then-x-y : goal.both-preserved-then-x-y
both-preserved-then-x-y c =
    let range : FitsSigned w128 (get_or c.args.a.now c.both.i (0, pos 0)).1 = search rules in
    let i_in : c.both.i < length c.args.a.now = omega arith in
    let j_in : c.both.j < length c.args.b.now = omega arith in
    let less : (get_or c.args.a.now c.both.i (0, pos 0)).0 < (get_or c.args.b.now c.both.j (0, pos 0)).0 = omega arith in (
      merge_left c.args.a.now c.args.b.now c.both.out.items c.push.new.self.items c.both.i c.both.j _ i_in j_in less range (to_z-of_z w128 _ range) c.in_ok-push.ensures.items
          ∙ c.both.invariant.0,
      omega arith,
      omega arith,
    )

pub both-preserved-then-y-x : goal.both-preserved-then-y-x
both-preserved-then-y-x c =
    let range : FitsSigned w128 (get_or c.args.b.now c.both.j (0, pos 0)).1 = search rules in
    let i_in : c.both.i < length c.args.a.now = omega arith in
    let j_in : c.both.j < length c.args.b.now = omega arith in
    let less : (get_or c.args.b.now c.both.j (0, pos 0)).0 < (get_or c.args.a.now c.both.i (0, pos 0)).0 = omega arith in (
      merge_right c.args.a.now c.args.b.now c.both.out.items c.push-then-y-x.new.self.items c.both.i c.both.j _ i_in j_in less range (to_z-of_z w128 _ range) c.in_ok-push-2.ensures.items
          ∙ c.both.invariant.0,
      omega arith,
      omega arith,
    )

pub returns-in_err-e : goal.returns-in_err-e
returns-in_err-e c =
    let range_a : FitsSigned w128 (get_or c.args.a.now c.both.i (0, pos 0)).1 = search rules in
    let range_b : FitsSigned w128 (get_or c.args.b.now c.both.j (0, pos 0)).1 = search rules in
    let i_in : c.both.i < length c.args.a.now = omega arith in
    let j_in : c.both.j < length c.args.b.now = omega arith in
    let ge : (get_or c.args.b.now c.both.j (0, pos 0)).0 ≤ (get_or c.args.a.now c.both.i (0, pos 0)).0 = omega arith in
    let le : (get_or c.args.a.now c.both.i (0, pos 0)).0 ≤ (get_or c.args.b.now c.both.j (0, pos 0)).0 = omega arith in
    let p = err_from_is_err_and c.from_residual-in_err-e.result c.from_residual-in_err-e.ensures.1 in
    rw p.1 (fails_from (λ (v : Vec (ℕ × ℤ) Global). v.items) c.in_err-e.field-0.0 p.0 _ (checked_terms (merge c.args.a.now c.args.b.now)) c.in_err-e.ensures.answer p.2
    (λ none. merge_fails c.args.a.now c.args.b.now c.both.out.items c.both.i c.both.j _ _ _ i_in j_in ge le (to_z-of_z w128 _ range_a) (to_z-of_z w128 _ range_b) none c.both.invariant.0))

pub both-preserved : goal.both-preserved
both-preserved c =
    let range_a : FitsSigned w128 (get_or c.args.a.now c.both.i (0, pos 0)).1 = search rules in
    let range_b : FitsSigned w128 (get_or c.args.b.now c.both.j (0, pos 0)).1 = search rules in
    let fit : FitsSigned w128 c.in_ok-e.e = search rules in
    let i_in : c.both.i < length c.args.a.now = omega arith in
    let j_in : c.both.j < length c.args.b.now = omega arith in
    let ge : (get_or c.args.b.now c.both.j (0, pos 0)).0 ≤ (get_or c.args.a.now c.both.i (0, pos 0)).0 = omega arith in
    let le : (get_or c.args.a.now c.both.i (0, pos 0)).0 ≤ (get_or c.args.b.now c.both.j (0, pos 0)).0 = omega arith in (
      merge_both c.args.a.now c.args.b.now c.both.out.items c.push_term.new.terms.items c.both.i c.both.j _ _ c.in_ok-e.e _ i_in j_in ge le
          (to_z-of_z w128 _ range_a) (to_z-of_z w128 _ range_b) c.in_ok-e.ensures.answer (to_z-of_z w128 c.in_ok-e.e fit) c.in_ok-push_term.ensures.added
          ∙ c.both.invariant.0,
      omega arith,
      omega arith,
    )

pub returns : goal.returns
returns c =
    let past : (length c.args.a.now ≤ c.both.i) ⊎ (length c.args.b.now ≤ c.both.j) =
    elim c.both-test.branch [ then-both-test+else-j-b w ↦ inr (omega arith) | else-both-test w ↦ inl (omega arith) ] in
    merge_end c.args.a.now c.args.b.now c.both.out.items c.extend_from_slice.new.self.items c.extend_from_slice-2.new.self.items c.both.i c.both.j _
    c.requires.a_fits c.requires.b_fits past
    (grind (arith, common_steps, c.in_ok-extend_from_slice.ensures.items)) (grind (arith, common_steps, c.in_ok-extend_from_slice-2.ensures.items)) c.both.invariant.0
