use Rattle.std.proofs.Common.{◌≡◌, ◌<◌, inl, inr, subst, ℕ, Bool, List, [], IfOk}
use Rattle.std.proofs.lemmas.Result.{IfOk-weaker}
use Rattle.std.specs.Borrow.{Bor}
use Rattle.og_judge.specs.declared.refusal.Refusal.TheVariants as refusals
use Rattle.og_report_text.specs.InputErrors.{IsFaultOfCount}
use Rattle.og_report_text.specs.Subject.{Subject, subject_of}
use Rattle.og_template_outline.specs.Meaning.{Means}
use Rattle.og_command_infer.specs.Inferred.{IsReply}
use Rattle.og_command_prove.specs.declared.form.ReportForm.{ReportForm}
use Rattle.og_words.specs.Jobs.{word_bytes}
use Rattle.og_program.specs.World.{named}
use Rattle.og_program.specs.Beside.{Refuses}
use Rattle.og_program.specs.Commands.{report_form, FollowsInferring, InfersOutline}
use Rattle.og_program.proofs.Faults.{wants_else}
use Rattle.og_program.proofs.Meanings.{own_source}
use Rattle.og_program.proofs.Refusals.{count_known, refuses}
use Rattle.og_program.proofs.program.Program.completed.Goals as goal

pub infer-requires-clause-source : goal.infer-requires-clause-source
infer-requires-clause-source g c κs within =
    own_source c.args.given.now.text.items (subject_of c.subject-subject.result) c.subject-subject.ensures.means

pub returns-in-Ok-clause-outcome : goal.returns-in-Ok-clause-outcome
returns-in-Ok-clause-outcome g c =
    let s = subject_of c.subject-subject.result in
    let given = c.args.given.now in
    let infer = c.args.infer.now in
    let words = word_bytes given.reading.starts.items in
    let reply = c.in-Ok.reply in
    IfOk-weaker c.beside_inferred.result (FollowsInferring infer.json s reply)
    (λ outcome. (s : Subject) × Means given.text.items s × InfersOutline infer.json infer.aux (named infer.source.now given.text.items) s words outcome)
    (λ outcome follows. (
      s,
      c.subject-subject.ensures.means,
      inl (
        reply,
        subst (λ (aux : Bool). IsReply (report_form infer.json) aux s words reply) c.inferrer.ensures.aux
            (subst (λ (f : ReportForm). IsReply f c.inferrer.result.effort.aux s words reply) c.report_form-form.ensures
            (subst (λ (v : List (Bor (List ℕ))). IsReply c.report_form-form.result c.inferrer.result.effort.aux s (word_bytes v) reply) c.deref.ensures.value c.in-Ok.ensures.reply)),
        follows,
      ),
    ))
    c.beside_inferred.ensures.outcome

pub returns-in-Ok-clause-want : goal.returns-in-Ok-clause-want
returns-in-Ok-clause-want g c =
    wants_else ⊥ (1 < c.args.infer.now.workers) c.beside_inferred.result (λ no. absurd no) c.beside_inferred.ensures.want

pub refuse_source-requires : goal.refuse_source-requires
refuse_source-requires g c =
    count_known (subject_of c.subject-subject.result).outline c.deref-in-Err.result.now c.in-Err.refusal c.in-Err.ensures.refused

pub returns-in-Err-clause-outcome : goal.returns-in-Err-clause-outcome
returns-in-Err-clause-outcome g c =
    let s = subject_of c.subject-subject.result in
    let given = c.args.given.now in
    let infer = c.args.infer.now in
    let text = named infer.source.now given.text.items in
    IfOk-weaker c.refuse_source.result (Refuses (IsFaultOfCount s.outline) text [])
    (λ outcome. (s : Subject) × Means given.text.items s × InfersOutline infer.json infer.aux text s (word_bytes given.reading.starts.items) outcome)
    (λ outcome h. (s, c.subject-subject.ensures.means, inr h))
    (subst (λ (t : List ℕ). IfOk c.refuse_source.result (Refuses (IsFaultOfCount s.outline) (named infer.source.now t) [])) c.deref-in-Err.ensures.value
    (refuses (IsFaultOfCount s.outline) (named infer.source.now c.deref-in-Err.result.now) [] c.in-Err.refusal c.refuse_source.result c.in-Err.ensures.refused c.refuse_source.ensures.refused))

pub returns-in-Err-clause-want : goal.returns-in-Err-clause-want
returns-in-Err-clause-want g c =
    wants_else (c.in-Err.refusal ≡ refusals.Spawn) (1 < c.args.infer.now.workers) c.refuse_source.result
    (λ is. subst (λ (n : ℕ). 1 < n) c.inferrer.ensures.workers (c.in-Err.ensures.spawn is)) c.refuse_source.ensures.want
