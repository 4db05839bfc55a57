use Rattle.std.proofs.Common.{◌≡◌, ◌<◌, ap, inl, inr, subst, is_some, ℕ, List, [], Bool, IfOk}
use Rattle.std.proofs.lemmas.Result.{IfOk-weaker}
use Rattle.std.specs.Borrow.{Bor}
use Rattle.og_judge.specs.declared.refusal.Refusal.TheVariants as refusals
use Rattle.og_report_text.specs.InputErrors.{IsFaultOfCount}
use Rattle.og_report_text.specs.Subject.{Subject, subject_of}
use Rattle.og_template_outline.specs.Meaning.{Means}
use Rattle.og_command_prove.specs.Reply.{IsReply}
use Rattle.og_words.specs.Jobs.{word_bytes}
use Rattle.og_program.specs.World.{named}
use Rattle.og_program.specs.Beside.{Refuses}
use Rattle.og_program.specs.Commands.{ProvesOutline}
use Rattle.og_program.proofs.Faults.{wants_else}
use Rattle.og_program.proofs.Refusals.{count_known, refuses}
use Rattle.og_program.proofs.program.Program.proved.Goals as goal

pub returns-in-Ok-clause-outcome : goal.returns-in-Ok-clause-outcome
returns-in-Ok-clause-outcome g c =
    let s = subject_of c.subject-subject.result in
    let reply = c.in-Ok.reply in
    let form = c.args.form in
    let runs = ap (λ s. is_some s.runs) c.prover.ensures in (
      s,
      c.subject-subject.ensures.means,
      inl (
        reply,
        subst (λ (b : Bool). IsReply form b s (word_bytes c.args.given.now.reading.starts.items) reply) runs
            (subst (λ (v : List (Bor (List ℕ))). IsReply form (is_some c.prover.result.search.runs) s (word_bytes v) reply) c.deref.ensures.value c.in-Ok.ensures.reply),
        c.in-Ok.ensures.warrants,
        c.beside_reply.ensures,
      ),
    )

pub refuse_source-requires : goal.refuse_source-requires
refuse_source-requires g c =
    count_known (subject_of c.subject-subject.result).outline c.deref-in-Err.result.now c.in-Err.refusal c.in-Err.ensures.refused

pub returns-in-Err-clause-outcome : goal.returns-in-Err-clause-outcome
returns-in-Err-clause-outcome g c =
    let s = subject_of c.subject-subject.result in
    let given = c.args.given.now in
    let text = named c.args.name.now given.text.items in
    let runs = is_some c.args.search.runs in
    IfOk-weaker c.refuse_source.result (Refuses (IsFaultOfCount s.outline) text [])
    (λ outcome. (s : Subject) × Means given.text.items s × ProvesOutline c.args.form runs text s (word_bytes given.reading.starts.items) outcome)
    (λ outcome h. (s, c.subject-subject.ensures.means, inr h))
    (subst (λ (t : List ℕ). IfOk c.refuse_source.result (Refuses (IsFaultOfCount s.outline) (named c.args.name.now t) [])) c.deref-in-Err.ensures.value
    (refuses (IsFaultOfCount s.outline) (named c.args.name.now c.deref-in-Err.result.now) [] c.in-Err.refusal c.refuse_source.result c.in-Err.ensures.refused c.refuse_source.ensures.refused))

pub returns-in-Err-clause-want : goal.returns-in-Err-clause-want
returns-in-Err-clause-want g c =
    wants_else (c.in-Err.refusal ≡ refusals.Spawn) (1 < c.args.search.workers) c.refuse_source.result
    (λ is. subst (λ (n : ℕ). 1 < n) (ap (λ s. s.workers) c.prover.ensures) (c.in-Err.ensures.spawn is)) c.refuse_source.ensures.want
