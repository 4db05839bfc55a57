use Rattle.std.proofs.Common.{length, refl}
use Rattle.std.proofs.lemmas.Option.{slice_get_read}
use Rattle.og_report_findings.proofs.Pushes.{pushed_group}
use Rattle.og_report_findings.proofs.causes.join.Goals as goal

pub returns-in_ok-push : goal.returns-in_ok-push
returns-in_ok-push c =
    let gs = c.args.groups.now.items in
    let k = c.args.number in
    let old = c.in-Some.group.now in
    pushed_group gs k c.args.item old c.push.new.self (slice_get_read gs (length gs) k old refl c.requires c.in-Some.ensures.value) c.in_ok-push.ensures.items
