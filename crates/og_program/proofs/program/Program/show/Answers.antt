use Rattle.std.proofs.Common.{◌<◌, subst, is_some, ℕ, List}
use Rattle.std.specs.Borrow.{Bor}
use Rattle.og_template_outline.specs.declared.meaning.Takes.{Takes}
use Rattle.og_command_prove.specs.declared.form.ReportForm.TheVariants as reports
use Rattle.og_words.specs.Jobs.{word_bytes}
use Rattle.og_program.specs.World.{world_of}
use Rattle.og_program.specs.Opened.{One}
use Rattle.og_program.specs.Commands.{takes_for, ProvesOutline}
use Rattle.og_program.specs.Given.{IsGiven, MeansNone}
use Rattle.og_program.proofs.Faults.{wants}
use Rattle.og_program.proofs.Meanings.{on_result, no_meaning, ok_of, err_of}
use Rattle.og_program.proofs.program.Program.show.Goals as goal

pub proved-requires-clause-meaning : goal.proved-requires-clause-meaning
proved-requires-clause-meaning g c κs within = (ok_of (IsGiven c.takes.result (world_of g.F.Files.contents g.F.Files.is_missing g.I.Read.remaining c.args.self.now c.args.input.now) c.args.show.now.source.now (word_bytes c.deref.result.now)) c.in_ok-given.field-0 c.in-Ok.given c.in-Ok.is c.in_ok-given.ensures.given).1.0

pub returns-in-Ok-clause-outcome : goal.returns-in-Ok-clause-outcome
returns-in-Ok-clause-outcome g c =
    let world = world_of g.F.Files.contents g.F.Files.is_missing g.I.Read.remaining c.args.self.now c.args.input.now in
    let show = c.args.show.now in
    let name = show.source.now in
    let runs = is_some show.runs in
    on_result (takes_for runs) world name (word_bytes show.words.items) (ProvesOutline (reports.Page show.source) runs) c.in-Ok.given c.proved.result
    (subst (λ (t : Takes). IsGiven t world name (word_bytes show.words.items) c.in-Ok.given) c.takes.ensures
    (subst (λ (v : List (Bor (List ℕ))). IsGiven c.takes.result world name (word_bytes v) c.in-Ok.given) c.deref.ensures.value (ok_of (IsGiven c.takes.result world name (word_bytes c.deref.result.now)) c.in_ok-given.field-0 c.in-Ok.given c.in-Ok.is c.in_ok-given.ensures.given)))
    c.proved.ensures.outcome

pub returns-in-Ok-clause-fault : goal.returns-in-Ok-clause-fault
returns-in-Ok-clause-fault g c =
    wants (One c.args.show.now.source.now) (1 < c.args.show.now.workers) (1 < c.args.show.now.workers) c.proved.result (λ w. w) c.proved.ensures.want

pub returns-in-Err-clause-outcome : goal.returns-in-Err-clause-outcome
returns-in-Err-clause-outcome g c =
    let world = world_of g.F.Files.contents g.F.Files.is_missing g.I.Read.remaining c.args.self.now c.args.input.now in
    let show = c.args.show.now in
    let name = show.source.now in
    let runs = is_some show.runs in
    no_meaning (takes_for runs) world name (word_bytes show.words.items) (ProvesOutline (reports.Page show.source) runs) c.in-Err.outcome
    (subst (λ (t : Takes). MeansNone t world name (word_bytes show.words.items) c.in-Err.outcome) c.takes.ensures
    (subst (λ (v : List (Bor (List ℕ))). MeansNone c.takes.result world name (word_bytes v) c.in-Err.outcome) c.deref.ensures.value (err_of (MeansNone c.takes.result world name (word_bytes c.deref.result.now)) c.in_ok-given.field-0 c.in-Err.outcome c.in-Err.is c.in_ok-given.ensures.none)))
