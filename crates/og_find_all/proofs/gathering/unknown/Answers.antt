use Rattle.std.proofs.Common.{subst, sym}
use Rattle.og_find_all.specs.Findings.{AreKnown}
use Rattle.og_find_all.proofs.Gathered.{none_more}
use Rattle.og_find_all.proofs.gathering.unknown.Goals as goal

pub loop-preserved : goal.loop-preserved
loop-preserved c = λ cs verdicts. subst (AreKnown cs verdicts) (sym c.in_ok-push.ensures.items) (none_more cs verdicts c.loop.known.items (c.loop.invariant cs verdicts))
