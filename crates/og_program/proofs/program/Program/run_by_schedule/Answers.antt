use Rattle.std.proofs.Common.{sym, ◌∙◌, subst, ℕ, List, Some}
use Rattle.std.specs.Borrow.{Bor}
use Rattle.og_command_run.specs.Scheduled.{IsScheduled}
use Rattle.og_words.specs.Jobs.{word_bytes}
use Rattle.og_typed.specs.Refused.{IsNotRead}
use Rattle.og_program.specs.Opened.{One}
use Rattle.og_program.specs.World.{named, world_of}
use Rattle.og_program.proofs.Faults.{wants}
use Rattle.og_program.specs.Commands.{RunsScheduled, FollowsRunning}
use Rattle.og_program.proofs.Refusals.{of_outline, not_outline}
use Rattle.og_program.proofs.program.Program.run_by_schedule.Goals as goal

pub returns-in-Ok-clause-outcome : goal.returns-in-Ok-clause-outcome
returns-in-Ok-clause-outcome g c =
    let world = world_of g.F.Files.contents g.F.Files.is_missing g.I.Read.remaining c.args.self.now c.args.input.now in
    of_outline world c.args.run.now.source.now (RunsScheduled c.args.run.now c.args.schedule) c.in_ok-bytes.bytes.items c.deref.result.now c.in-Ok.source c.beside_run.result c.in_ok-bytes.ensures.text c.deref.ensures.value c.in-Ok.ensures.same c.in-Ok.ensures.outline (
      c.in_ok-reply-in-Ok.reply,
      subst (λ (v : List (Bor (List ℕ))). IsScheduled c.args.run.now.erased c.in-Ok.source.outline c.in-Ok.source.bytes (word_bytes v) c.args.schedule.now c.in_ok-reply-in-Ok.reply) c.deref-words.ensures.value c.in_ok-reply-in-Ok.ensures,
      subst (λ (v : List (Bor (List ℕ))). FollowsRunning (named c.args.run.now.source.now c.in-Ok.source.bytes) c.in-Ok.source.outline (word_bytes v) (Some c.args.schedule) c.in_ok-reply-in-Ok.reply c.beside_run.result) c.deref-words.ensures.value c.beside_run.ensures,
    )

pub refuse_unread-requires : goal.refuse_unread-requires
refuse_unread-requires g c =
    subst (λ (b : List ℕ). IsNotRead b c.in-Err.error) (c.deref.ensures.value ∙ sym c.deref-in-Err.ensures.value) c.in-Err.ensures.fault

pub returns-clause-outcome : goal.returns-clause-outcome
returns-clause-outcome g c =
    not_outline (world_of g.F.Files.contents g.F.Files.is_missing g.I.Read.remaining c.args.self.now c.args.input.now) c.args.run.now.source.now (RunsScheduled c.args.run.now c.args.schedule) c.in_ok-bytes.bytes.items c.deref-in-Err.result.now c.refuse_unread.result c.in_ok-bytes.ensures.text c.deref-in-Err.ensures.value c.refuse_unread.ensures.refused

pub returns-clause-fault : goal.returns-clause-fault
returns-clause-fault g c =
    wants (One c.args.run.now.source.now) ⊥ ⊥ c.refuse_unread.result (λ no. absurd no) c.refuse_unread.ensures.want
