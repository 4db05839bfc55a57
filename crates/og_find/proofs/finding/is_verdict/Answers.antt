use Rattle.std.proofs.Common.{true, ◌≡◌}
use Rattle.og_cond.specs.Seen.{seen}
use Rattle.og_find.specs.Found.{IsVerdict, IsVerdictOn}
use Rattle.og_find.proofs.Certified.{verdict_on, if_ok}
use Rattle.og_find.proofs.finding.is_verdict.Goals as goal

pub returns-in-Ok : goal.returns-in-Ok
returns-in-Ok c =
    let condition = seen c.args.condition.now in
    let list = c.in-Ok.list in
    let verdict = c.args.verdict.now in
    if_ok c.is_verdict_on.result (λ yes. yes ≡ true → IsVerdictOn list verdict) (λ yes. yes ≡ true → IsVerdict condition verdict)
    (λ yes h is. verdict_on condition list verdict c.in-Ok.ensures.0 c.in-Ok.ensures.1 (h is))
    c.is_verdict_on.ensures
