use Rattle.std.proofs.Common.{sym, ◌∙◌, subst, ℕ, List}
use Rattle.std.proofs.lemmas.Result.{IfOk-weaker}
use Rattle.og_typed.specs.Source.{IsSource}
use Rattle.og_command_run.specs.Starts.{HasStart}
use Rattle.og_words.specs.Jobs.{word_bytes}
use Rattle.og_typed.specs.Refused.{IsNotRead}
use Rattle.og_program.specs.Opened.{One}
use Rattle.og_program.specs.World.{named, world_of}
use Rattle.og_program.proofs.Faults.{wants}
use Rattle.og_program.specs.Threads.{StartsFree}
use Rattle.og_program.specs.Commands.{OfOutline, RunsOutline}
use Rattle.og_program.proofs.Refusals.{of_outline, not_outline}
use Rattle.og_program.proofs.program.Program.run_source.Goals as goal

pub returns-in-Ok-clause-outcome : goal.returns-in-Ok-clause-outcome
returns-in-Ok-clause-outcome g c =
    let world = world_of g.F.Files.contents g.F.Files.is_missing g.I.Read.remaining c.args.self.now c.args.input.now in
    let run = c.args.run.now in
    IfOk-weaker c.run_outline.result (RunsOutline run (named run.source.now c.in-Ok.source.bytes) c.in-Ok.source.outline) (OfOutline world run.source.now (RunsOutline run))
    (λ outcome. of_outline world run.source.now (RunsOutline run) c.in_ok-bytes.bytes.items c.deref.result.now c.in-Ok.source outcome c.in_ok-bytes.ensures.text c.deref.ensures.value c.in-Ok.ensures.same c.in-Ok.ensures.outline)
    c.run_outline.ensures.outcome

pub returns-in-Ok-clause-fault : goal.returns-in-Ok-clause-fault
returns-in-Ok-clause-fault g c =
    let world = world_of g.F.Files.contents g.F.Files.is_missing g.I.Read.remaining c.args.self.now c.args.input.now in
    let run = c.args.run.now in
    wants (One run.source.now) (HasStart run.erased c.in-Ok.source.outline (word_bytes run.values.items)) (StartsFree world run) c.run_outline.result
    (λ start. (c.in_ok-bytes.bytes.items, c.in_ok-bytes.ensures.text, (c.in-Ok.source.outline, subst (λ (b : List ℕ). IsSource b c.in-Ok.source.outline) c.deref.ensures.value c.in-Ok.ensures.outline, start)))
    c.run_outline.ensures.want

pub refuse_unread-requires : goal.refuse_unread-requires
refuse_unread-requires g c =
    subst (λ (b : List ℕ). IsNotRead b c.in-Err.error) (c.deref.ensures.value ∙ sym c.deref-in-Err.ensures.value) c.in-Err.ensures.fault

pub returns-clause-outcome : goal.returns-clause-outcome
returns-clause-outcome g c =
    not_outline (world_of g.F.Files.contents g.F.Files.is_missing g.I.Read.remaining c.args.self.now c.args.input.now) c.args.run.now.source.now (RunsOutline c.args.run.now) c.in_ok-bytes.bytes.items c.deref-in-Err.result.now c.refuse_unread.result c.in_ok-bytes.ensures.text c.deref-in-Err.ensures.value c.refuse_unread.ensures.refused

pub returns-clause-fault : goal.returns-clause-fault
returns-clause-fault g c =
    wants (One c.args.run.now.source.now) ⊥ (StartsFree (world_of g.F.Files.contents g.F.Files.is_missing g.I.Read.remaining c.args.self.now c.args.input.now) c.args.run.now) c.refuse_unread.result (λ no. absurd no) c.refuse_unread.ensures.want
