use Rattle.std.proofs.Common.{IfSome, subst}
use Rattle.og_cond.specs.Seen.{seen}
use Rattle.og_cert_text.specs.Plain.{plain_cert}
use Rattle.og_find.specs.declared.verdict.Followed.TheVariants as followed
use Rattle.og_find.specs.Found.{IsFollowedOn}
use Rattle.og_find.proofs.Certified.{followed_on}
use Rattle.og_find.proofs.finding.follow.Goals as goal

pub returns-in-Some : goal.returns-in-Some
returns-in-Some c =
    let proof = plain_cert c.args.leader.cert.now in
    let list = c.in-Ok.list in
    followed_on (seen c.args.condition.now) list proof c.in-Some.followed c.in-Ok.ensures.0 c.in-Ok.ensures.1
    (subst (λ some. IfSome some (IsFollowedOn list proof)) c.in-Some.is c.in_ok-followed-in-Ok.ensures)

pub returns-in_ok-examine_facts-in-Ok : goal.returns-in_ok-examine_facts-in-Ok
returns-in_ok-examine_facts-in-Ok c =
    followed_on (seen c.args.condition.now) c.in-Ok.list (plain_cert c.args.leader.cert.now) (followed.Own c.in_ok-examine_facts-in-Ok.field-0) c.in-Ok.ensures.0 c.in-Ok.ensures.1 c.in_ok-examine_facts-in-Ok.ensures
