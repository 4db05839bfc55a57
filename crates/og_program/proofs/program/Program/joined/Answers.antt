use Rattle.std.proofs.Common.{ℕ, List, ◌<◌, false, codes, subst, arith}
use Rattle.std.proofs.lemmas.Result.{IfOk-weaker}
use Rattle.og_io.specs.Joined.{IsSplit}
use Rattle.og_program.specs.World.{named, world_of}
use Rattle.og_program.specs.Opened.{One}
use Rattle.og_program.specs.Commands.{IsCheckOutcome, ChecksInput}
use Rattle.og_program.proofs.Faults.{wants}
use Rattle.og_program.proofs.program.Program.joined.Goals as goal

pub returns-clause-outcome : goal.returns-clause-outcome
returns-clause-outcome g c =
    let world = world_of g.F.Files.contents g.F.Files.is_missing g.I.Read.remaining c.args.self.now c.args.input.now in
    let both = c.split.result in
    let parts : IsSplit c.deref.result.now both.0.now both.1.now = record { whole = c.split.ensures.whole; first = c.split.ensures.first; rest = c.split.ensures.rest } in
    IfOk-weaker c.check_bytes.result (IsCheckOutcome false (named (codes "-") both.0.now) (named (codes "-") both.1.now)) (ChecksInput world)
    (λ outcome h. (
      c.in_ok-bytes.bytes.items,
      c.in_ok-bytes.ensures.text,
      (both.0.now, both.1.now, subst (λ (i : List ℕ). IsSplit i both.0.now both.1.now) c.deref.ensures.value parts, h),
    )) c.check_bytes.ensures.report

pub returns-clause-fault : goal.returns-clause-fault
returns-clause-fault g c =
    wants (One (codes "-")) (1 < 1) ⊥ c.check_bytes.result (λ less. omega (arith, less)) c.check_bytes.ensures.want
