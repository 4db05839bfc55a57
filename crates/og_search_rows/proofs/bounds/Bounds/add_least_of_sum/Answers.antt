use Rattle.std.proofs.Common.{◌≡◌, ℤ, ◌+ℤ◌, ◌<◌, length, arith, rules, to_z, of_z, ap, ◌∙◌, FitsSigned}
use mir.Syntax.{w128}
use Rattle.std.proofs.lemmas.Int.{to_z-of_z}
use Rattle.std.proofs.lemmas.Option.{IfSome_then}
use Rattle.og_search_rows.proofs.Merges.{least_first, least_second, least_both, least_rest, rest_of}
use Rattle.og_search_rows.proofs.bounds.Bounds.add_least_of_sum.Goals as goal

pub both-preserved-then-x-y : goal.both-preserved-then-x-y
both-preserved-then-x-y c =
    let old = to_z w128 c.both.sum-bits in
    let part = c.in_ok-least_of.field-0 in
    let next = c.in_ok-sum.sum in
    let next_fits : FitsSigned w128 next = search rules in
    let part_fits : FitsSigned w128 part = search rules in
    let put : to_z w128 (of_z w128 next) ≡ old +ℤ part = to_z-of_z w128 next next_fits ∙ c.in_ok-sum.ensures.1 ∙ ap (λ (z : ℤ). old +ℤ z) (to_z-of_z w128 part part_fits) in
    let within : c.both.i < length c.args.a.now = omega arith in
    record {
      below = least_first c.args.a.now c.args.b.now c.args.self.now.intervals old part (to_z w128 (of_z w128 next)) c.both.i c.both.j _ within c.in_ok-least_of.ensures put c.both.invariant.below;
      first = omega arith;
      second = c.both.invariant.second;
    }

pub both-preserved-then-y-x : goal.both-preserved-then-y-x
both-preserved-then-y-x c =
    let old = to_z w128 c.both.sum-bits in
    let part = c.in_ok-least_of-2.field-0 in
    let next = c.in_ok-sum-2.sum in
    let next_fits : FitsSigned w128 next = search rules in
    let part_fits : FitsSigned w128 part = search rules in
    let put : to_z w128 (of_z w128 next) ≡ old +ℤ part = to_z-of_z w128 next next_fits ∙ c.in_ok-sum-2.ensures.1 ∙ ap (λ (z : ℤ). old +ℤ z) (to_z-of_z w128 part part_fits) in
    let within : c.both.j < length c.args.b.now = omega arith in
    record {
      below = least_second c.args.a.now c.args.b.now c.args.self.now.intervals old part (to_z w128 (of_z w128 next)) c.both.i c.both.j _ within c.in_ok-least_of-2.ensures put c.both.invariant.below;
      first = c.both.invariant.first;
      second = omega arith;
    }

pub both-preserved : goal.both-preserved
both-preserved c =
    let old = to_z w128 c.both.sum-bits in
    let part = c.in_ok-least_of_both.field-0 in
    let next = c.in_ok-sum-3.sum in
    let next_fits : FitsSigned w128 next = search rules in
    let part_fits : FitsSigned w128 part = search rules in
    let put : to_z w128 (of_z w128 next) ≡ old +ℤ part = to_z-of_z w128 next next_fits ∙ c.in_ok-sum-3.ensures.1 ∙ ap (λ (z : ℤ). old +ℤ z) (to_z-of_z w128 part part_fits) in
    let within : c.both.i < length c.args.a.now = omega arith in
    let inside : c.both.j < length c.args.b.now = omega arith in
    record {
      below = least_both c.args.a.now c.args.b.now c.args.self.now.intervals old part (to_z w128 (of_z w128 next)) c.both.i c.both.j _ within inside c.in_ok-least_of_both.ensures put c.both.invariant.below;
      first = omega arith;
      second = omega arith;
    }

pub returns : goal.returns
returns c = IfSome_then c.add_least-2.result c.add_least-2.ensures (λ v p.
    let start_fits : FitsSigned w128 c.args.start = c.ranges.start in
    let first_fits : FitsSigned w128 c.in_ok-with_first.with_first = search rules in
    let first = simp (to_z-of_z, rest_of) at c.in_ok-with_first.ensures in
    let second = simp (to_z-of_z, rest_of) at p in
    let below = simp to_z-of_z at c.both.invariant.below in
    least_rest c.args.a.now c.args.b.now c.args.self.now.intervals (to_z w128 c.both.sum-bits) c.in_ok-with_first.with_first v c.both.i c.both.j _ first second below)
