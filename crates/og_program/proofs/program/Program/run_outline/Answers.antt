use Rattle.std.proofs.Common.{sym, ℕ, List, None, subst}
use Rattle.std.proofs.lemmas.Result.{err_from_is_err_and}
use Rattle.std.specs.Borrow.{Bor}
use Rattle.og_command_run.specs.Running.{IsRan}
use Rattle.og_command_run.specs.Starts.{HasStart}
use Rattle.og_words.specs.Jobs.{word_bytes}
use Rattle.og_program.specs.World.{named}
use Rattle.og_program.specs.Failing.{IsWant}
use Rattle.og_program.specs.Commands.{FollowsRunning}
use Rattle.og_program.specs.declared.fault.Fault.{Fault}
use Rattle.og_program.proofs.Faults.{by_pool}
use Rattle.og_program.proofs.program.Program.run_outline.Goals as goal

pub returns-clause-outcome : goal.returns-clause-outcome
returns-clause-outcome g c =
    let run = c.args.run.now in
    let source = c.args.source.now in
    let reply = c.in_ok-reply.field-0 in (
      reply,
      subst (λ (v : List (Bor (List ℕ))). IsRan run.erased run.limit source.outline source.bytes (word_bytes v) reply) c.deref-words.ensures.value
          (subst (λ (limit : ℕ). IsRan run.erased limit source.outline source.bytes (word_bytes c.deref-words.result.now) reply) c.runner.ensures c.in_ok-reply.ensures.answered),
      subst (λ (v : List (Bor (List ℕ))). FollowsRunning (named run.source.now source.bytes) source.outline (word_bytes v) None reply c.beside_run.result) c.deref-words.ensures.value c.beside_run.ensures,
    )

pub returns-in_err-reply-clause-want : goal.returns-in_err-reply-clause-want
returns-in_err-reply-clause-want g c =
    let run = c.args.run.now in
    let source = c.args.source.now in
    let start = HasStart run.erased source.outline (word_bytes run.values.items) in
    let p = err_from_is_err_and c.from_residual.result c.from_residual.ensures.1 in
    rw p.1 (subst (λ (f : Fault). IsWant start f) (sym p.2)
    (by_pool start c.in_err-reply.field-0.0 (λ e. subst (λ (v : List (Bor (List ℕ))). HasStart run.erased source.outline (word_bytes v)) c.deref-words.ensures.value (c.in_err-reply.ensures.spawn e))))
