use Rattle.std.proofs.Common.{◌<◌, subst, ℕ, List}
use Rattle.std.specs.Borrow.{Bor}
use Rattle.og_template_outline.specs.declared.meaning.Takes.TheVariants.{Starts}
use Rattle.og_words.specs.Jobs.{word_bytes}
use Rattle.og_program.specs.World.{world_of}
use Rattle.og_program.specs.Opened.{One}
use Rattle.og_program.specs.Commands.{InfersOutline}
use Rattle.og_program.specs.Given.{IsGiven, MeansNone}
use Rattle.og_program.proofs.Faults.{wants}
use Rattle.og_program.proofs.Meanings.{on_result, no_meaning, ok_of, err_of}
use Rattle.og_program.proofs.program.Program.infer.Goals as goal

pub completed-requires-clause-meaning : goal.completed-requires-clause-meaning
completed-requires-clause-meaning g c κs within = (ok_of (IsGiven Starts (world_of g.F.Files.contents g.F.Files.is_missing g.I.Read.remaining c.args.self.now c.args.input.now) c.args.infer.now.source.now (word_bytes c.deref.result.now)) c.in_ok-given.field-0 c.in-Ok.given c.in-Ok.is c.in_ok-given.ensures.given).1.0

pub returns-in-Ok-clause-outcome : goal.returns-in-Ok-clause-outcome
returns-in-Ok-clause-outcome g c =
    let world = world_of g.F.Files.contents g.F.Files.is_missing g.I.Read.remaining c.args.self.now c.args.input.now in
    let infer = c.args.infer.now in
    let name = infer.source.now in
    on_result Starts world name (word_bytes infer.words.items) (InfersOutline infer.json infer.aux) c.in-Ok.given c.completed.result
    (subst (λ (v : List (Bor (List ℕ))). IsGiven Starts world name (word_bytes v) c.in-Ok.given) c.deref.ensures.value (ok_of (IsGiven Starts world name (word_bytes c.deref.result.now)) c.in_ok-given.field-0 c.in-Ok.given c.in-Ok.is c.in_ok-given.ensures.given))
    c.completed.ensures.outcome

pub returns-in-Ok-clause-fault : goal.returns-in-Ok-clause-fault
returns-in-Ok-clause-fault g c =
    wants (One c.args.infer.now.source.now) (1 < c.args.infer.now.workers) (1 < c.args.infer.now.workers) c.completed.result (λ w. w) c.completed.ensures.want

pub returns-in-Err-clause-outcome : goal.returns-in-Err-clause-outcome
returns-in-Err-clause-outcome g c =
    let world = world_of g.F.Files.contents g.F.Files.is_missing g.I.Read.remaining c.args.self.now c.args.input.now in
    let infer = c.args.infer.now in
    let name = infer.source.now in
    no_meaning Starts world name (word_bytes infer.words.items) (InfersOutline infer.json infer.aux) c.in-Err.outcome
    (subst (λ (v : List (Bor (List ℕ))). MeansNone Starts world name (word_bytes v) c.in-Err.outcome) c.deref.ensures.value (err_of (MeansNone Starts world name (word_bytes c.deref.result.now)) c.in_ok-given.field-0 c.in-Err.outcome c.in-Err.is c.in_ok-given.ensures.none))
