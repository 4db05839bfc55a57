use Rattle.std.proofs.Common.{◌≡◌, ◌∙◌, sym, inl, ℕ, List, subst}
use Rattle.og_typed.specs.Syntax.{Program}
use Rattle.og_typed.specs.Source.{IsSource}
use Rattle.og_judge.specs.declared.refusal.Refusal.TheVariants as refusals
use Rattle.og_report_text.specs.InputErrors.{OnFault, IsFaultOfConditions}
use Rattle.og_report_conditions.specs.declared.choosing.Reply.{Reply}
use Rattle.og_program.specs.World.{world_of}
use Rattle.og_program.specs.Opened.{One}
use Rattle.og_program.specs.Commands.{IsListing, FollowsListing}
use Rattle.og_program.proofs.Faults.{wants}
use Rattle.og_program.proofs.Refusals.{known, of_input_error, no_input_spawns, refused_read}
use Rattle.og_program.proofs.program.Program.conditions.Goals as goal

pub returns-in-Ok-clause-outcome : goal.returns-in-Ok-clause-outcome
returns-in-Ok-clause-outcome g c =
    let conditions = c.args.conditions.now in
    let listed = c.in-Ok.ensures.listing in (
      c.in_ok-bytes.bytes.items,
      c.in_ok-bytes.ensures.text,
      inl (
        listed.0,
        subst (λ (b : List ℕ). IsSource b listed.0) c.deref.ensures.value listed.1,
        (
          c.in-Ok.reply,
          subst (λ (b : List ℕ). IsListing conditions listed.0 b c.in-Ok.reply) c.deref.ensures.value listed.2,
          c.beside_listing.ensures,
        ),
      ),
    )

pub refuse_source-requires : goal.refuse_source-requires
refuse_source-requires g c =
    known (IsFaultOfConditions c.deref-in-Err.result.now) c.deref-in-Err.result.now c.into.result (λ fault why. why) (of_input_error (IsFaultOfConditions c.deref-in-Err.result.now) c.in-Err.error c.into.result c.into.ensures (subst (λ (b : List ℕ). OnFault (IsFaultOfConditions b) c.in-Err.error) (c.deref.ensures.value ∙ sym c.deref-in-Err.ensures.value) c.in-Err.ensures.refused))

pub returns-clause-outcome : goal.returns-clause-outcome
returns-clause-outcome g c =
    refused_read (world_of g.F.Files.contents g.F.Files.is_missing g.I.Read.remaining c.args.self.now c.args.input.now) c.args.conditions.now.source.now IsFaultOfConditions
    (λ source outcome. (o : Program) × IsSource source.bytes o × ((reply : Reply) × IsListing c.args.conditions.now o source.bytes reply × FollowsListing reply outcome))
    c.in_ok-bytes.bytes.items c.deref-in-Err.result.now c.into.result c.refuse_source.result c.in_ok-bytes.ensures.text c.deref-in-Err.ensures.value (of_input_error (IsFaultOfConditions c.deref-in-Err.result.now) c.in-Err.error c.into.result c.into.ensures (subst (λ (b : List ℕ). OnFault (IsFaultOfConditions b) c.in-Err.error) (c.deref.ensures.value ∙ sym c.deref-in-Err.ensures.value) c.in-Err.ensures.refused)) c.refuse_source.ensures.refused

pub returns-clause-fault : goal.returns-clause-fault
returns-clause-fault g c =
    wants (One c.args.conditions.now.source.now) (c.into.result ≡ refusals.Spawn) ⊥ c.refuse_source.result
    (no_input_spawns c.in-Err.error c.into.result c.into.ensures) c.refuse_source.ensures.want
