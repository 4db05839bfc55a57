use Rattle.std.proofs.Common.{subst, ℕ, List}
use Rattle.std.specs.Borrow.{Bor}
use Rattle.og_report_text.specs.Subject.{subject_of}
use Rattle.og_report_text.specs.declared.answer.Answer.{Answer}
use Rattle.og_template_outline.specs.declared.meaning.Takes.TheVariants.{Constants}
use Rattle.og_command_notes.specs.Noted.{IsNotes}
use Rattle.og_words.specs.Jobs.{word_bytes}
use Rattle.og_program.specs.World.{world_of}
use Rattle.og_program.specs.Beside.{Answers}
use Rattle.og_program.specs.Given.{IsGiven, MeansNone}
use Rattle.og_program.specs.declared.outcome.Outcome.TheVariants as outcomes
use Rattle.og_program.proofs.Along.{answers}
use Rattle.og_program.proofs.Meanings.{on_meaning, no_meaning, ok_of, err_of}
use Rattle.og_program.proofs.program.Program.notes.Goals as goal

pub subject-requires : goal.subject-requires
subject-requires g c = (ok_of (IsGiven Constants (world_of g.F.Files.contents g.F.Files.is_missing g.I.Read.remaining c.args.self.now c.args.input.now) c.args.notes.now.source.now (word_bytes c.deref.result.now)) c.in_ok-given.field-0 c.in-Ok.given c.in-Ok.is c.in_ok-given.ensures.given).1.0

pub returns-in_ok-answer-in-Ok-clause-outcome : goal.returns-in_ok-answer-in-Ok-clause-outcome
returns-in_ok-answer-in-Ok-clause-outcome g c =
    let world = world_of g.F.Files.contents g.F.Files.is_missing g.I.Read.remaining c.args.self.now c.args.input.now in
    let name = c.args.notes.now.source.now in
    on_meaning Constants world name (word_bytes c.args.notes.now.words.items) (λ text s starts outcome. (answer : Answer) × IsNotes s answer × Answers answer outcome) c.in-Ok.given (subject_of c.subject.result) (outcomes.Report c.alone.result)
    (subst (λ (v : List (Bor (List ℕ))). IsGiven Constants world name (word_bytes v) c.in-Ok.given) c.deref.ensures.value (ok_of (IsGiven Constants world name (word_bytes c.deref.result.now)) c.in_ok-given.field-0 c.in-Ok.given c.in-Ok.is c.in_ok-given.ensures.given))
    c.subject.ensures.means
    (c.in_ok-answer-in-Ok.answer, c.in_ok-answer-in-Ok.ensures, answers c.in_ok-answer-in-Ok.answer c.alone.result c.alone.ensures)

pub returns-in-Err-clause-outcome : goal.returns-in-Err-clause-outcome
returns-in-Err-clause-outcome g c =
    let world = world_of g.F.Files.contents g.F.Files.is_missing g.I.Read.remaining c.args.self.now c.args.input.now in
    let name = c.args.notes.now.source.now in
    no_meaning Constants world name (word_bytes c.args.notes.now.words.items) (λ text s starts outcome. (answer : Answer) × IsNotes s answer × Answers answer outcome) c.in-Err.outcome
    (subst (λ (v : List (Bor (List ℕ))). MeansNone Constants world name (word_bytes v) c.in-Err.outcome) c.deref.ensures.value (err_of (MeansNone Constants world name (word_bytes c.deref.result.now)) c.in_ok-given.field-0 c.in-Err.outcome c.in-Err.is c.in_ok-given.ensures.none))
