use Rattle.std.proofs.Common.{◌≡◌, inl, inr, ℕ, List, [], subst}
use Rattle.std.proofs.lemmas.Result.{IfOk-weaker}
use Rattle.og_judge.specs.declared.refusal.Refusal.TheVariants as refusals
use Rattle.og_command_check.specs.Making.{IsMigrated, IsFaultOfCerts}
use Rattle.og_program.specs.World.{named, world_of}
use Rattle.og_program.specs.Opened.{One}
use Rattle.og_program.specs.Beside.{Refuses}
use Rattle.og_program.specs.Commands.{Migrates}
use Rattle.og_program.proofs.Along.{answers}
use Rattle.og_program.proofs.Faults.{wants}
use Rattle.og_program.proofs.Refusals.{known, of_input_error, no_input_spawns, refuses}
use Rattle.og_program.proofs.program.Program.migrate.Goals as goal

pub returns-in-Ok-clause-outcome : goal.returns-in-Ok-clause-outcome
returns-in-Ok-clause-outcome g c = (
  c.in_ok-certs.certs.items,
  c.in_ok-certs.ensures.text,
  inl (
    c.in-Ok.answer,
    subst (λ (k : List ℕ). IsMigrated k c.in-Ok.answer) c.deref.ensures.value c.in-Ok.ensures.migrated,
    answers c.in-Ok.answer c.alone.result c.alone.ensures,
  ),
)

pub refuse-requires : goal.refuse-requires
refuse-requires g c = known (IsFaultOfCerts c.deref.result.now) [] c.into.result (λ fault no. absurd no) (of_input_error (IsFaultOfCerts c.deref.result.now) c.in-Err.error c.into.result c.into.ensures c.in-Err.ensures.refused)

pub returns-clause-outcome : goal.returns-clause-outcome
returns-clause-outcome g c =
    let certs = c.args.migrate.now.certs.now in
    IfOk-weaker c.refuse.result (Refuses (IsFaultOfCerts c.deref.result.now) (named [] []) certs) (Migrates (world_of g.F.Files.contents g.F.Files.is_missing g.I.Read.remaining c.args.self.now c.args.input.now) c.args.migrate.now)
    (λ outcome h. (
      c.in_ok-certs.certs.items,
      c.in_ok-certs.ensures.text,
      inr (subst (λ (k : List ℕ). Refuses (IsFaultOfCerts k) (named [] []) certs outcome) c.deref.ensures.value h),
    )) (refuses (IsFaultOfCerts c.deref.result.now) (named [] []) certs c.into.result c.refuse.result (of_input_error (IsFaultOfCerts c.deref.result.now) c.in-Err.error c.into.result c.into.ensures c.in-Err.ensures.refused) c.refuse.ensures.refused)

pub returns-clause-fault : goal.returns-clause-fault
returns-clause-fault g c =
    wants (One c.args.migrate.now.certs.now) (c.into.result ≡ refusals.Spawn) ⊥ c.refuse.result
    (no_input_spawns c.in-Err.error c.into.result c.into.ensures) c.refuse.ensures.want
