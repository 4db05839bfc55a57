use Rattle.std.proofs.Common.{◌∙◌, sym, ℕ, List, None, subst}
use Rattle.std.proofs.lemmas.Result.{err_from_is_err_and}
use Rattle.std.specs.Borrow.{Bor}
use Rattle.og_judge.specs.NotJudged.{IsNotJudged}
use Rattle.og_judge.specs.declared.refusal.Refusal.{Refusal}
use Rattle.og_command_run.specs.Running.{IsRanProved}
use Rattle.og_command_run.specs.Starts.{HasProvedStart}
use Rattle.og_words.specs.Jobs.{word_bytes}
use Rattle.og_program.specs.World.{named}
use Rattle.og_program.specs.Commands.{FollowsRunning}
use Rattle.og_program.proofs.Refusals.{judged}
use Rattle.og_program.proofs.program.Program.run_by_certs.Goals as goal

pub returns-clause-outcome : goal.returns-clause-outcome
returns-clause-outcome g c =
    let run = c.args.run.now in
    let source = c.in_ok-source.source in
    let certs = c.args.certs.now in
    let reply = c.in_ok-reply.field-0 in (
      source.outline,
      c.in_ok-source.ensures.outline,
      (
        reply,
        subst (λ (b : List ℕ). IsRanProved run.limit source.outline b certs (word_bytes run.values.items) reply) c.in_ok-source.ensures.same
            (subst (λ (v : List (Bor (List ℕ))). IsRanProved run.limit source.outline source.bytes certs (word_bytes v) reply) c.deref-words.ensures.value
            (subst (λ (limit : ℕ). IsRanProved limit source.outline source.bytes certs (word_bytes c.deref-words.result.now) reply) c.runner.ensures c.in_ok-reply.ensures.answered)),
        subst (λ (b : List ℕ). FollowsRunning (named run.source.now b) source.outline (word_bytes run.values.items) None reply c.beside_run.result) c.in_ok-source.ensures.same
            (subst (λ (v : List (Bor (List ℕ))). FollowsRunning (named run.source.now source.bytes) source.outline (word_bytes v) None reply c.beside_run.result) c.deref-words.ensures.value c.beside_run.ensures),
      ),
    )

pub returns-in_err-reply-clause-refused : goal.returns-in_err-reply-clause-refused
returns-in_err-reply-clause-refused g c =
    let p = err_from_is_err_and c.from_residual-in_err-reply.result c.from_residual-in_err-reply.ensures.1 in
    rw p.1 (subst (λ (r : Refusal). IsNotJudged c.args.bytes.now c.args.certs.now r) (sym p.2)
    (judged c.args.bytes.now c.args.certs.now c.in_ok-source.source.outline c.in_err-reply.field-0.0 c.in_ok-source.ensures.outline c.in_err-reply.ensures.refused))

pub returns-in_err-reply-clause-spawn : goal.returns-in_err-reply-clause-spawn
returns-in_err-reply-clause-spawn g c =
    let p = err_from_is_err_and c.from_residual-in_err-reply.result c.from_residual-in_err-reply.ensures.1 in
    rw p.1 (λ is. (
      c.in_ok-source.source.outline,
      c.in_ok-source.ensures.outline,
      subst (λ (v : List (Bor (List ℕ))). HasProvedStart c.in_ok-source.source.outline c.args.certs.now (word_bytes v)) c.deref-words.ensures.value (c.in_err-reply.ensures.spawn (sym p.2 ∙ is)),
    ))
