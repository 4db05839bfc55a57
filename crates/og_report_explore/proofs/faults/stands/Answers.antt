use Rattle.std.proofs.Common.{◌≡◌, ◌+◌, length, sym, subst, arith}
use Rattle.og_report_explore.specs.Findings.{StandsAt, AreStands}
use Rattle.og_report_explore.proofs.Tables.{stands_more}
use Rattle.og_report_explore.proofs.faults.stands.Goals as goal

pub loop-p-preserved : goal.loop-p-preserved
loop-p-preserved c =
    let m = c.args.moment.now.moment in
    let stands = c.loop-p.stands.items in
    let at : c.loop-p.p ≡ 0 + length stands = omega (arith, c.loop-p.invariant.count) in
    record {
      count = omega (arith, c.in_ok-push.ensures.len, c.loop-p.invariant.count);
      stands = subst (AreStands m 0) (sym c.in_ok-push.ensures.items) (stands_more m 0 stands c.head.result c.loop-p.invariant.stands (subst (λ i. StandsAt m i c.head.result) at c.head.ensures));
    }
