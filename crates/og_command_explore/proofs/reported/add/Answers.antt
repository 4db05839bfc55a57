use Rattle.std.proofs.Common.{IfSome, false, refl, sym, subst, map}
use Rattle.og_cond.specs.Seen.{seen}
use Rattle.og_explore.specs.Within.{IsWithin}
use Rattle.og_report_explore.specs.Findings.{IsFinding}
use Rattle.og_command_explore.specs.declared.reported.Reported.{Reported}
use Rattle.og_command_explore.specs.Reported.{IsAdded}
use Rattle.og_command_explore.proofs.Adding.{added_none, added_some}
use Rattle.og_command_explore.proofs.reported.add.Goals as goal

pub returns-in_ok-push-in-Some-2 : goal.returns-in_ok-push-in-Some-2
returns-in_ok-push-in-Some-2 c =
    let o = c.args.context.outline.now in
    let cs = map seen c.args.context.conditions.now in
    let is = subst (λ x. IfSome x (IsFinding o cs c.in-Some.violation)) c.in-Some-2.is c.in_ok-finding.ensures in
    let ranges = c.args.context.ranges.now in
    let within = subst (λ x. IfSome x (λ v. IsWithin ranges v.values)) c.in-Some.is c.requires.within in
    let new : Reported = record { findings = c.push.new.self; complete = c.args.reported.now.complete } in
    subst (λ x. IsAdded o cs ranges x c.args.reported.now new) (sym c.in-Some.is)
    (added_some o cs ranges c.in-Some.violation c.args.reported.now new c.in-Some-2.finding c.in_ok-push-in-Some-2.ensures.items refl within is)

pub returns-in-None : goal.returns-in-None
returns-in-None c = added_none c.args.context.outline.now (map seen c.args.context.conditions.now) c.args.context.ranges.now c.args.found.now c.args.reported.now (record { findings = c.args.reported.now.findings; complete = false }) refl refl
