use Rattle.std.proofs.Common.{sym, ◌∙◌, subst, ℕ, List}
use Rattle.og_typed.specs.Syntax.{Program}
use Rattle.og_report_text.specs.declared.answer.Answer.{Answer}
use Rattle.og_command_check.specs.Commands.{IsErased}
use Rattle.og_typed.specs.Refused.{IsNotRead}
use Rattle.og_program.specs.Opened.{One}
use Rattle.og_program.specs.World.{world_of}
use Rattle.og_program.proofs.Faults.{wants}
use Rattle.og_program.specs.Beside.{Answers}
use Rattle.og_program.specs.declared.outcome.Outcome.TheVariants as outcomes
use Rattle.og_program.proofs.Along.{answers}
use Rattle.og_program.proofs.Refusals.{of_outline, not_outline}
use Rattle.og_program.proofs.program.Program.erase.Goals as goal

pub returns-in-Ok-clause-outcome : goal.returns-in-Ok-clause-outcome
returns-in-Ok-clause-outcome g c =
    let world = world_of g.F.Files.contents g.F.Files.is_missing g.I.Read.remaining c.args.self.now c.args.input.now in
    of_outline world c.args.erase.now.source.now (λ s o outcome. (answer : Answer) × IsErased c.args.erase.now.readable o answer × Answers answer outcome) c.in_ok-bytes.bytes.items c.deref.result.now c.in-Ok.source (outcomes.Report c.alone.result) c.in_ok-bytes.ensures.text c.deref.ensures.value c.in-Ok.ensures.same c.in-Ok.ensures.outline (
      c.in_ok-answer-in-Ok.answer,
      subst (λ (o : Program). IsErased c.args.erase.now.readable o c.in_ok-answer-in-Ok.answer) c.outline.ensures.same c.in_ok-answer-in-Ok.ensures,
      answers c.in_ok-answer-in-Ok.answer c.alone.result c.alone.ensures,
    )

pub refuse_unread-requires : goal.refuse_unread-requires
refuse_unread-requires g c =
    subst (λ (b : List ℕ). IsNotRead b c.in-Err.error) (c.deref.ensures.value ∙ sym c.deref-in-Err.ensures.value) c.in-Err.ensures.fault

pub returns-clause-outcome : goal.returns-clause-outcome
returns-clause-outcome g c =
    not_outline (world_of g.F.Files.contents g.F.Files.is_missing g.I.Read.remaining c.args.self.now c.args.input.now) c.args.erase.now.source.now (λ s o outcome. (answer : Answer) × IsErased c.args.erase.now.readable o answer × Answers answer outcome) c.in_ok-bytes.bytes.items c.deref-in-Err.result.now c.refuse_unread.result c.in_ok-bytes.ensures.text c.deref-in-Err.ensures.value c.refuse_unread.ensures.refused

pub returns-clause-fault : goal.returns-clause-fault
returns-clause-fault g c =
    wants (One c.args.erase.now.source.now) ⊥ ⊥ c.refuse_unread.result (λ no. absurd no) c.refuse_unread.ensures.want
