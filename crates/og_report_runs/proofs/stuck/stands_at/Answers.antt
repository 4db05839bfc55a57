use Rattle.std.proofs.Common.{◌≡◌, ◌+◌, IfSome, length, sym, subst, arith}
use Rattle.og_report_runs.specs.RunDiagnosis.{StandsAt, AreStandsFrom}
use Rattle.og_report_runs.proofs.Placed.{stands_more}
use Rattle.og_report_runs.proofs.stuck.stands_at.Goals as goal

pub loop-p-preserved : goal.loop-p-preserved
loop-p-preserved c =
    let o = c.args.outline.now in
    let m = c.args.moment.now.moment in
    let stands = c.loop-p.stands.items in
    let st = c.in-Some.stand in
    let here = subst (λ found. IfSome found (StandsAt o m c.loop-p.p)) c.in-Some.is c.in_ok-stand.ensures in
    let at : c.loop-p.p ≡ 0 + length stands = omega (arith, c.loop-p.invariant.count) in
    record {
      count = omega (arith, c.in_ok-push.ensures.len, c.loop-p.invariant.count);
      stands = subst (AreStandsFrom o m 0) (sym c.in_ok-push.ensures.items) (stands_more o m 0 stands st c.loop-p.invariant.stands (subst (λ i. StandsAt o m i st) at here));
    }
