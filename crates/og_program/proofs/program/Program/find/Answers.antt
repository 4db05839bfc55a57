use Rattle.std.proofs.Common.{◌≡◌, ◌∙◌, ◌<◌, sym, inl, ℕ, List, subst}
use Rattle.og_typed.specs.Syntax.{Program}
use Rattle.og_typed.specs.Source.{IsSource}
use Rattle.og_judge.specs.NotJudged.{OnInput}
use Rattle.og_judge.specs.declared.refusal.Refusal.TheVariants as refusals
use Rattle.og_report_text.specs.InputErrors.{IsFaultOfConditions}
use Rattle.og_command_check.specs.Making.{IsFound}
use Rattle.og_command_check.specs.declared.making.FindReply.{FindReply}
use Rattle.og_program.specs.World.{world_of}
use Rattle.og_program.specs.Opened.{One}
use Rattle.og_program.specs.Commands.{FollowsFinding}
use Rattle.og_program.proofs.Faults.{wants}
use Rattle.og_program.proofs.Refusals.{known, refused_read}
use Rattle.og_program.proofs.program.Program.find.Goals as goal

pub returns-in-Ok-clause-outcome : goal.returns-in-Ok-clause-outcome
returns-in-Ok-clause-outcome g c =
    let found = c.in-Ok.ensures.found in (
      c.in_ok-bytes.bytes.items,
      c.in_ok-bytes.ensures.text,
      inl (
        found.0,
        subst (λ (b : List ℕ). IsSource b found.0) c.deref.ensures.value found.1,
        (c.in-Ok.reply, found.2, c.beside_found.ensures),
      ),
    )

pub refuse_source-requires : goal.refuse_source-requires
refuse_source-requires g c =
    known (IsFaultOfConditions c.deref-in-Err.result.now) c.deref-in-Err.result.now c.in-Err.refusal (λ fault why. why) (subst (λ (b : List ℕ). OnInput (IsFaultOfConditions b) c.in-Err.refusal) (c.deref.ensures.value ∙ sym c.deref-in-Err.ensures.value) c.in-Err.ensures.refused)

pub returns-clause-outcome : goal.returns-clause-outcome
returns-clause-outcome g c =
    refused_read (world_of g.F.Files.contents g.F.Files.is_missing g.I.Read.remaining c.args.self.now c.args.input.now) c.args.find.now.source.now IsFaultOfConditions
    (λ source outcome. (o : Program) × IsSource source.bytes o × ((reply : FindReply) × IsFound c.args.find.now.version 67108864 o reply × FollowsFinding source.name reply outcome))
    c.in_ok-bytes.bytes.items c.deref-in-Err.result.now c.in-Err.refusal c.refuse_source.result c.in_ok-bytes.ensures.text c.deref-in-Err.ensures.value (subst (λ (b : List ℕ). OnInput (IsFaultOfConditions b) c.in-Err.refusal) (c.deref.ensures.value ∙ sym c.deref-in-Err.ensures.value) c.in-Err.ensures.refused) c.refuse_source.ensures.refused

pub returns-clause-fault : goal.returns-clause-fault
returns-clause-fault g c =
    wants (One c.args.find.now.source.now) (c.in-Err.refusal ≡ refusals.Spawn) (1 < c.args.find.now.workers) c.refuse_source.result c.in-Err.ensures.spawn c.refuse_source.ensures.want
