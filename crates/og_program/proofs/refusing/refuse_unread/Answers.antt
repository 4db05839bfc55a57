use Rattle.std.proofs.Common.{◌≡◌, []}
use Rattle.og_judge.specs.declared.refusal.Refusal.TheVariants as refusals
use Rattle.og_report_text.specs.InputErrors.{IsFaultOfSource}
use Rattle.og_program.specs.World.{named}
use Rattle.og_program.proofs.Faults.{wants_else}
use Rattle.og_program.proofs.Refusals.{known, of_source_error, no_source_spawns, refuses}
use Rattle.og_program.proofs.refusing.refuse_unread.Goals as goal

pub refuse_source-requires : goal.refuse_source-requires
refuse_source-requires c =
    known (IsFaultOfSource c.args.source.now) c.args.source.now c.into.result (λ fault why. why)
    (of_source_error c.args.source.now c.args.error c.into.result c.into.ensures c.requires)

pub returns-clause-refused : goal.returns-clause-refused
returns-clause-refused c =
    refuses (IsFaultOfSource c.args.source.now) (named c.args.name.now c.args.source.now) [] c.into.result c.refuse_source.result
    (of_source_error c.args.source.now c.args.error c.into.result c.into.ensures c.requires) c.refuse_source.ensures.refused

pub returns-clause-want : goal.returns-clause-want
returns-clause-want c =
    wants_else (c.into.result ≡ refusals.Spawn) ⊥ c.refuse_source.result (no_source_spawns c.args.error c.into.result c.into.ensures) c.refuse_source.ensures.want
