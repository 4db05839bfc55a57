use Rattle.std.proofs.Common.{ℕ, List, ◌<◌, subst}
use Rattle.std.proofs.lemmas.Result.{IfOk-weaker}
use Rattle.og_program.specs.World.{named, world_of}
use Rattle.og_program.specs.Opened.{Both}
use Rattle.og_program.specs.Commands.{IsCheckOutcome, Checks}
use Rattle.og_program.specs.declared.outcome.Outcome.{Outcome}
use Rattle.og_program.proofs.Faults.{wants}
use Rattle.og_program.proofs.program.Program.check.Goals as goal

pub returns-clause-outcome : goal.returns-clause-outcome
returns-clause-outcome g c =
    let world = world_of g.F.Files.contents g.F.Files.is_missing g.I.Read.remaining c.args.self.now c.args.input.now in
    let check = c.args.check.now in
    let Checked = λ (s k : List ℕ) (outcome : Outcome). IsCheckOutcome check.json (named check.source.now s) (named check.certs.now k) outcome in
    let source = c.in_ok-source.source.items in
    let certs = c.in_ok-source.certs.items in
    IfOk-weaker c.check_bytes.result (Checked c.deref.result.now c.deref-2.result.now) (Checks world check)
    (λ outcome h. (
      source,
      c.in_ok-source.ensures.source,
      (
        certs,
        c.in_ok-source.ensures.certs,
        subst (λ (k : List ℕ). Checked source k outcome) c.deref-2.ensures.value (subst (λ (s : List ℕ). Checked s c.deref-2.result.now outcome) c.deref.ensures.value h),
      ),
    )) c.check_bytes.ensures.report

pub returns-clause-fault : goal.returns-clause-fault
returns-clause-fault g c =
    let check = c.args.check.now in
    let several = 1 < check.workers in
    wants (Both check.source.now check.certs.now) several several c.check_bytes.result (λ less. less) c.check_bytes.ensures.want
