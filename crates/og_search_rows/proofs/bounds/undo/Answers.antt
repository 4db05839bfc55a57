use Rattle.std.proofs.Common.{◌≡◌, ◌∙◌, ◌+◌, ◌≤◌, length, drop, ap, arith, length-append}
use Rattle.og_search_rows.specs.Bounds.{undone}
use Rattle.og_search_rows.proofs.Trail.{undone-pop, take-pop}
use Rattle.og_search_rows.proofs.bounds.undo.Goals as goal

pub back-preserved : goal.back-preserved
back-preserved c =
    let from = c.args.from in
    let rest = c.pop.new.self.items in
    let longer : length c.back.trail.items ≡ length rest + 1 = ap length c.in-Some.ensures.items ∙ length-append rest _ in
    let h : from ≤ length rest = omega (arith, longer) in
    record {
      left = ap (undone (drop from rest)) c.put_back.ensures ∙ (undone-pop from c.back.trail.items rest c.in-Some.before c.back.intervals c.in-Some.ensures.items h ∙ c.back.invariant.left);
      kept = take-pop from c.back.trail.items rest c.in-Some.before c.in-Some.ensures.items h ∙ c.back.invariant.kept;
    }
