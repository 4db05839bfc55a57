use Rattle.og_cond.specs.Seen.{seen}
use Rattle.og_find.specs.Found.{IsVerdict, IsVerdictOn}
use Rattle.og_find.proofs.Certified.{verdict_on, if_ok}
use Rattle.og_find.proofs.finding.examine.Goals as goal

pub returns-in-Ok : goal.returns-in-Ok
returns-in-Ok c =
    let condition = seen c.args.condition.now in
    let list = c.in-Ok.list in
    if_ok c.examine_facts.result (IsVerdictOn list) (IsVerdict condition)
    (λ v h. verdict_on condition list v c.in-Ok.ensures.0 c.in-Ok.ensures.1 h)
    c.examine_facts.ensures
