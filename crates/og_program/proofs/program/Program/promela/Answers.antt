use Rattle.std.proofs.Common.{subst, ℕ, List}
use Rattle.std.specs.Borrow.{Bor}
use Rattle.og_report_text.specs.Subject.{subject_of}
use Rattle.og_template_outline.specs.declared.meaning.Takes.TheVariants.{Starts}
use Rattle.og_command_promela.specs.Replies.{HasOneOf}
use Rattle.og_command_promela.specs.declared.translating.Reply.{Reply}
use Rattle.og_words.specs.Jobs.{word_bytes}
use Rattle.og_program.specs.World.{world_of}
use Rattle.og_program.specs.Commands.{FollowsTwin}
use Rattle.og_program.specs.Given.{IsGiven, MeansNone}
use Rattle.og_program.proofs.Meanings.{on_meaning, no_meaning, ok_of, err_of}
use Rattle.og_program.proofs.program.Program.promela.Goals as goal

pub subject-subject-requires : goal.subject-subject-requires
subject-subject-requires g c = (ok_of (IsGiven Starts (world_of g.F.Files.contents g.F.Files.is_missing g.I.Read.remaining c.args.self.now c.args.input.now) c.args.promela.now.source.now (word_bytes c.deref.result.now)) c.in_ok-given.field-0 c.in-Ok.given c.in-Ok.is c.in_ok-given.ensures.given).1.0

pub returns-in_ok-reply-in-Ok-clause-outcome : goal.returns-in_ok-reply-in-Ok-clause-outcome
returns-in_ok-reply-in-Ok-clause-outcome g c =
    let world = world_of g.F.Files.contents g.F.Files.is_missing g.I.Read.remaining c.args.self.now c.args.input.now in
    let promela = c.args.promela.now in
    let name = promela.source.now in
    let s = subject_of c.subject-subject.result in
    let reply = c.in_ok-reply-in-Ok.reply in
    on_meaning Starts world name (word_bytes promela.words.items) (λ text s starts outcome. (reply : Reply) × HasOneOf starts reply × FollowsTwin s.outline reply outcome) c.in-Ok.given s c.beside_twin.result
    (subst (λ (v : List (Bor (List ℕ))). IsGiven Starts world name (word_bytes v) c.in-Ok.given) c.deref.ensures.value (ok_of (IsGiven Starts world name (word_bytes c.deref.result.now)) c.in_ok-given.field-0 c.in-Ok.given c.in-Ok.is c.in_ok-given.ensures.given))
    c.subject-subject.ensures.means
    (reply, subst (λ (v : List (Bor (List ℕ))). HasOneOf (word_bytes v) reply) c.deref-in-Ok.ensures.value c.in_ok-reply-in-Ok.ensures, c.beside_twin.ensures)

pub returns-in-Err-clause-outcome : goal.returns-in-Err-clause-outcome
returns-in-Err-clause-outcome g c =
    let world = world_of g.F.Files.contents g.F.Files.is_missing g.I.Read.remaining c.args.self.now c.args.input.now in
    let promela = c.args.promela.now in
    let name = promela.source.now in
    no_meaning Starts world name (word_bytes promela.words.items) (λ text s starts outcome. (reply : Reply) × HasOneOf starts reply × FollowsTwin s.outline reply outcome) c.in-Err.outcome
    (subst (λ (v : List (Bor (List ℕ))). MeansNone Starts world name (word_bytes v) c.in-Err.outcome) c.deref.ensures.value (err_of (MeansNone Starts world name (word_bytes c.deref.result.now)) c.in_ok-given.field-0 c.in-Err.outcome c.in-Err.is c.in_ok-given.ensures.none))
