use Rattle.std.proofs.Common.{◌≡◌, ◌∙◌, Some, inl, inr, sym, ℕ, List, subst}
use Rattle.std.proofs.lemmas.Result.{IfOk-weaker}
use Rattle.og_typed.specs.Syntax.{Program}
use Rattle.og_typed.specs.Source.{IsSource}
use Rattle.og_judge.specs.Report.{IsRefused as IsRefusedCheck}
use Rattle.og_judge.specs.NotJudged.{IsNotJudged}
use Rattle.og_judge.specs.declared.refusal.Refusal.TheVariants as refusals
use Rattle.og_command_run.specs.Starts.{HasProvedStart}
use Rattle.og_words.specs.Jobs.{word_bytes}
use Rattle.og_program.specs.World.{named, world_of}
use Rattle.og_program.specs.Beside.{Refuses}
use Rattle.og_program.specs.Commands.{RunsProved, RunsBy}
use Rattle.og_program.specs.Opened.{Both}
use Rattle.og_program.specs.Threads.{StartsProved}
use Rattle.og_program.proofs.Faults.{wants}
use Rattle.og_program.proofs.Refusals.{known, refuses}
use Rattle.og_program.proofs.program.Program.run_proved.Goals as goal

pub returns-in-Ok-clause-outcome : goal.returns-in-Ok-clause-outcome
returns-in-Ok-clause-outcome g c =
    let run = c.args.run.now in
    let source = c.in_ok-source.source.items in
    let certs = c.in_ok-source.certs.items in
    let Ran = λ (s k : List ℕ). (o : Program) × IsSource s o × RunsProved run (named run.source.now s) k o c.in-Ok.outcome in (
      source,
      c.in_ok-source.ensures.source,
      (
        certs,
        c.in_ok-source.ensures.certs,
        inl (subst (λ (k : List ℕ). Ran source k) c.deref-2.ensures.value (subst (λ (s : List ℕ). Ran s c.deref-2.result.now) c.deref.ensures.value c.in-Ok.ensures.outcome)),
      ),
    )

pub refuse-requires : goal.refuse-requires
refuse-requires g c =
    known (IsRefusedCheck c.deref-in-Err.result.now c.deref-2.result.now) c.deref-in-Err.result.now c.in-Err.refusal (λ fault why. why) (subst (λ (b : List ℕ). IsNotJudged b c.deref-2.result.now c.in-Err.refusal) (c.deref.ensures.value ∙ sym c.deref-in-Err.ensures.value) c.in-Err.ensures.refused)

pub returns-clause-outcome : goal.returns-clause-outcome
returns-clause-outcome g c =
    let run = c.args.run.now in
    let source = c.in_ok-source.source.items in
    let certs = c.in_ok-source.certs.items in
    let read = c.deref-in-Err.result.now in
    let k = c.deref-2.result.now in
    IfOk-weaker c.refuse.result (Refuses (IsRefusedCheck read k) (named run.source.now read) c.args.certs.now) (RunsBy (Some c.args.certs) run.schedule (world_of g.F.Files.contents g.F.Files.is_missing g.I.Read.remaining c.args.self.now c.args.input.now) run)
    (λ outcome h. (
      source,
      c.in_ok-source.ensures.source,
      (
        certs,
        c.in_ok-source.ensures.certs,
        inr (subst (λ (l : List ℕ). Refuses (IsRefusedCheck source l) (named run.source.now source) c.args.certs.now outcome) c.deref-2.ensures.value
            (subst (λ (s : List ℕ). Refuses (IsRefusedCheck s k) (named run.source.now s) c.args.certs.now outcome) c.deref-in-Err.ensures.value h)),
      ),
    )) (refuses (IsRefusedCheck read k) (named run.source.now read) c.args.certs.now c.in-Err.refusal c.refuse.result (subst (λ (b : List ℕ). IsNotJudged b c.deref-2.result.now c.in-Err.refusal) (c.deref.ensures.value ∙ sym c.deref-in-Err.ensures.value) c.in-Err.ensures.refused) c.refuse.ensures.refused)

pub returns-clause-fault : goal.returns-clause-fault
returns-clause-fault g c =
    let run = c.args.run.now in
    let words = word_bytes run.values.items in
    let source = c.in_ok-source.source.items in
    let certs = c.in_ok-source.certs.items in
    wants (Both run.source.now c.args.certs.now) (c.in-Err.refusal ≡ refusals.Spawn) (StartsProved (world_of g.F.Files.contents g.F.Files.is_missing g.I.Read.remaining c.args.self.now c.args.input.now) run c.args.certs.now) c.refuse.result
    (λ is.
    let start = c.in-Err.ensures.spawn is in (
      source,
      c.in_ok-source.ensures.source,
      (
        certs,
        c.in_ok-source.ensures.certs,
        (
          start.0,
          subst (λ (b : List ℕ). IsSource b start.0) c.deref.ensures.value start.1,
          subst (λ (k : List ℕ). HasProvedStart start.0 k words) c.deref-2.ensures.value start.2,
        ),
      ),
    )) c.refuse.ensures.want
