use Rattle.std.proofs.Common.{◌≡◌, ◌∙◌, ◌+◌, length, ap, arith, length-append}
use Rattle.og_search_rows.proofs.Trail.{take-pop}
use Rattle.og_search_rows.proofs.rows.recycle.Goals as goal

pub back-preserved : goal.back-preserved
back-preserved c =
    let rest = c.pop.new.self.items in
    let longer : length c.back.rows.items ≡ length rest + 1 = ap length c.in-Some.ensures.items ∙ length-append rest _ in
    take-pop c.args.from c.back.rows.items rest c.in-Some.row c.in-Some.ensures.items (omega (arith, longer)) ∙ c.back.invariant
