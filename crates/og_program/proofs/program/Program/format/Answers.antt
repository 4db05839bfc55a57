use Rattle.std.proofs.Common.{subst, inl, inr, ℕ, List, []}
use Rattle.og_template_outline.specs.declared.meaning.Takes.TheVariants.{Constants}
use Rattle.og_program.specs.World.{world_of, named}
use Rattle.og_program.specs.Layout.{IsFormatted}
use Rattle.og_program.specs.Given.{IsGiven, MeansNone}
use Rattle.og_program.proofs.Meanings.{ok_of, err_of}
use Rattle.og_program.proofs.program.Program.format.Goals as goal

pub returns-in_ok-report-in-Ok-clause-outcome : goal.returns-in_ok-report-in-Ok-clause-outcome
returns-in_ok-report-in-Ok-clause-outcome g c =
    let world = world_of g.F.Files.contents g.F.Files.is_missing g.I.Read.remaining c.args.self.now c.args.input.now in
    let format = c.args.format.now in
    let name = format.source.now in
    let given = ok_of (IsGiven Constants world name []) c.in_ok-given.field-0 c.in-Ok.given c.in-Ok.is c.in_ok-given.ensures.given in (
      c.in-Ok.given.text.items,
      given.0,
      inl (subst (λ (t : List ℕ). IsFormatted format.check (named name t) c.in_ok-report-in-Ok.report) c.deref.ensures.value c.in_ok-report-in-Ok.ensures.report),
    )

pub returns-in-Err-clause-outcome : goal.returns-in-Err-clause-outcome
returns-in-Err-clause-outcome g c =
    let world = world_of g.F.Files.contents g.F.Files.is_missing g.I.Read.remaining c.args.self.now c.args.input.now in
    let none = err_of (MeansNone Constants world c.args.format.now.source.now []) c.in_ok-given.field-0 c.in-Err.outcome c.in-Err.is c.in_ok-given.ensures.none in
    (none.0, none.1, inr none.2)
