use Rattle.std.proofs.Common.{◌<◌, length, arith, to_z, of_z, FitsSigned}
use mir.Syntax.{w128}
use Rattle.std.proofs.lemmas.Int.{to_z-of_z}
use Rattle.og_search_rows.proofs.Merges.{take_first, take_second, take_both, take_rest, rest_of}
use Rattle.og_search_rows.proofs.inequality.put_sum.Goals as goal

pub both-preserved-then-x-y : goal.both-preserved-then-x-y
both-preserved-then-x-y c =
    let m = to_z w128 (of_z w128 c.args.m) in
    let n = to_z w128 (of_z w128 c.args.k) in
    let within : c.both.i < length c.args.a.now = omega arith in
    record {
      sums = take_first c.args.a.now c.args.b.now c.both.terms.items c.put_multiple.new.terms.items c.both.i c.both.j m n _ within (c.in_ok-put_multiple.ensures c.if-not-branch.false) c.both.invariant.sums;
      first = omega arith;
      second = c.both.invariant.second;
    }

pub both-preserved-then-y-x : goal.both-preserved-then-y-x
both-preserved-then-y-x c =
    let m = to_z w128 (of_z w128 c.args.m) in
    let n = to_z w128 (of_z w128 c.args.k) in
    let within : c.both.j < length c.args.b.now = omega arith in
    record {
      sums = take_second c.args.a.now c.args.b.now c.both.terms.items c.put_multiple-then-y-x.new.terms.items c.both.i c.both.j m n _ within (c.in_ok-put_multiple-2.ensures c.if-not-branch-2.false) c.both.invariant.sums;
      first = c.both.invariant.first;
      second = omega arith;
    }

pub both-preserved : goal.both-preserved
both-preserved c =
    let m = to_z w128 (of_z w128 c.args.m) in
    let n = to_z w128 (of_z w128 c.args.k) in
    let within : c.both.i < length c.args.a.now = omega arith in
    let inside : c.both.j < length c.args.b.now = omega arith in
    record {
      sums = take_both c.args.a.now c.args.b.now c.both.terms.items c.put_both.new.terms.items c.both.i c.both.j m n _ within inside (c.in_ok-put_both.ensures c.if-not-branch-3.false) c.both.invariant.sums;
      first = omega arith;
      second = omega arith;
    }

pub returns : goal.returns
returns c = λ _.
    let m_fits : FitsSigned w128 c.args.m = c.ranges.m in
    let k_fits : FitsSigned w128 c.args.k = c.ranges.k in
    let first = simp (to_z-of_z, rest_of) at (c.in_ok-put_all.ensures c.if-not-branch-4.false) in
    let second = simp (to_z-of_z, rest_of) at (c.in_ok-put_all-2.ensures c.if-not-branch-5.false) in
    let sums = simp to_z-of_z at c.both.invariant.sums in
    take_rest c.args.a.now c.args.b.now c.both.terms.items c.put_all.new.terms.items c.put_all-2.new.terms.items c.both.i c.both.j c.args.m c.args.k _ first second sums
