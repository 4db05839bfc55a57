use Rattle.std.proofs.Common.{sym, subst, ◌<◌, ℕ, List}
use Rattle.std.proofs.lemmas.Result.{err_from_is_err_and}
use Rattle.std.specs.Borrow.{Bor}
use Rattle.og_report_text.specs.Subject.{subject_of}
use Rattle.og_template_outline.specs.declared.meaning.Takes.TheVariants.{Starts}
use Rattle.og_command_explore.specs.Explored.{IsReply}
use Rattle.og_command_explore.specs.declared.exploring.Reply.{Reply}
use Rattle.og_words.specs.Jobs.{word_bytes}
use Rattle.og_program.specs.World.{world_of}
use Rattle.og_program.specs.Commands.{FollowsReply}
use Rattle.og_program.specs.Opened.{One}
use Rattle.og_program.specs.Failing.{IsWant}
use Rattle.og_program.specs.declared.fault.Fault.{Fault}
use Rattle.og_program.specs.Given.{IsGiven, MeansNone}
use Rattle.og_program.proofs.Faults.{by_pool, wants}
use Rattle.og_program.proofs.Meanings.{on_meaning, no_meaning, ok_of, err_of}
use Rattle.og_program.proofs.program.Program.look.Goals as goal

pub subject-subject-requires : goal.subject-subject-requires
subject-subject-requires g c = (ok_of (IsGiven Starts (world_of g.F.Files.contents g.F.Files.is_missing g.I.Read.remaining c.args.self.now c.args.input.now) c.args.explore.now.source.now (word_bytes c.deref.result.now)) c.in_ok-given.field-0 c.in-Ok.given c.in-Ok.is c.in_ok-given.ensures.given).1.0

pub returns-in_ok-reply-in-Ok-clause-outcome : goal.returns-in_ok-reply-in-Ok-clause-outcome
returns-in_ok-reply-in-Ok-clause-outcome g c =
    let world = world_of g.F.Files.contents g.F.Files.is_missing g.I.Read.remaining c.args.self.now c.args.input.now in
    let explore = c.args.explore.now in
    let name = explore.source.now in
    let s = subject_of c.subject-subject.result in
    let reply = c.in_ok-reply-in-Ok.reply in
    on_meaning Starts world name (word_bytes explore.words.items) (λ text s starts outcome. (reply : Reply) × IsReply explore.json s explore.erased starts reply × FollowsReply s.outline reply outcome) c.in-Ok.given s c.beside_reply.result
    (subst (λ (v : List (Bor (List ℕ))). IsGiven Starts world name (word_bytes v) c.in-Ok.given) c.deref.ensures.value (ok_of (IsGiven Starts world name (word_bytes c.deref.result.now)) c.in_ok-given.field-0 c.in-Ok.given c.in-Ok.is c.in_ok-given.ensures.given))
    c.subject-subject.ensures.means
    (reply, subst (λ (v : List (Bor (List ℕ))). IsReply explore.json s explore.erased (word_bytes v) reply) c.deref-in-Ok.ensures.value c.in_ok-reply-in-Ok.ensures.reply, c.beside_reply.ensures)

pub returns-in_err-reply-in-Ok-clause-fault : goal.returns-in_err-reply-in-Ok-clause-fault
returns-in_err-reply-in-Ok-clause-fault g c =
    let threads = 1 < c.args.explore.now.workers in
    let back = c.from_residual-in_err-reply-in-Ok in
    let p = err_from_is_err_and back.result back.ensures.1 in
    wants (One c.args.explore.now.source.now) threads threads back.result (λ w. w)
    (rw p.1 (subst (λ (f : Fault). IsWant threads f) (sym p.2)
    (by_pool threads c.in_err-reply-in-Ok.field-0.0 c.in_err-reply-in-Ok.ensures.spawn)))

pub returns-in-Err-clause-outcome : goal.returns-in-Err-clause-outcome
returns-in-Err-clause-outcome g c =
    let world = world_of g.F.Files.contents g.F.Files.is_missing g.I.Read.remaining c.args.self.now c.args.input.now in
    let explore = c.args.explore.now in
    let name = explore.source.now in
    no_meaning Starts world name (word_bytes explore.words.items) (λ text s starts outcome. (reply : Reply) × IsReply explore.json s explore.erased starts reply × FollowsReply s.outline reply outcome) c.in-Err.outcome
    (subst (λ (v : List (Bor (List ℕ))). MeansNone Starts world name (word_bytes v) c.in-Err.outcome) c.deref.ensures.value (err_of (MeansNone Starts world name (word_bytes c.deref.result.now)) c.in_ok-given.field-0 c.in-Err.outcome c.in-Err.is c.in_ok-given.ensures.none))
