use Rattle.std.proofs.Common.{◌≡◌, ◌<◌, inl, inr}
use Rattle.std.proofs.lemmas.Result.{IfOk-weaker}
use Rattle.og_judge.specs.Report.{IsRefused as IsRefusedCheck}
use Rattle.og_judge.specs.declared.refusal.Refusal.TheVariants as refusals
use Rattle.og_program.specs.World.{named}
use Rattle.og_program.specs.Beside.{Refuses}
use Rattle.og_program.specs.Commands.{IsCheckOutcome}
use Rattle.og_program.proofs.Faults.{wants_else}
use Rattle.og_program.proofs.Refusals.{known, refuses}
use Rattle.og_program.proofs.Along.{reported}
use Rattle.og_program.proofs.program.Program.check_bytes.Goals as goal

pub refuse-requires : goal.refuse-requires
refuse-requires g c = known (IsRefusedCheck c.args.source.now c.args.certs.now) c.args.source.now c.in-Err.refusal (λ fault why. why) c.in-Err.ensures.refused

pub returns-in-Ok-clause-report : goal.returns-in-Ok-clause-report
returns-in-Ok-clause-report g c =
    inl (reported c.args.options.json (named c.args.names.source.now c.args.source.now) (named c.args.names.certs.now c.args.certs.now) c.in-Ok.checked c.beside_check-report.result
    c.in-Ok.ensures.report c.beside_check-report.ensures.answer c.beside_check-report.ensures.note c.in-Ok.ensures.sound c.in-Ok.ensures.unblocked)

pub returns-in-Err-clause-report : goal.returns-in-Err-clause-report
returns-in-Err-clause-report g c =
    let source = named c.args.names.source.now c.args.source.now in
    let certs = named c.args.names.certs.now c.args.certs.now in
    let F = IsRefusedCheck c.args.source.now c.args.certs.now in
    IfOk-weaker c.refuse.result (Refuses F source certs.name) (IsCheckOutcome c.args.options.json source certs) (λ outcome h. inr h)
    (refuses F source certs.name c.in-Err.refusal c.refuse.result c.in-Err.ensures.refused c.refuse.ensures.refused)

pub returns-in-Err-clause-want : goal.returns-in-Err-clause-want
returns-in-Err-clause-want g c =
    wants_else (c.in-Err.refusal ≡ refusals.Spawn) (1 < c.args.options.workers) c.refuse.result c.in-Err.ensures.spawn c.refuse.ensures.want
