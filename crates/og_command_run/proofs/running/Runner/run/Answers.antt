use Rattle.std.proofs.Common.{rules, ℕ, ℤ, List, IfOk, subst}
use Rattle.og_command_run.specs.Asked.{IsNote}
use Rattle.og_command_run.specs.Running.{given, note_of, IsAnswer}
use Rattle.og_command_run.specs.declared.reply.Ran.{Ran}
use Rattle.og_command_run.proofs.Answering.{run_answered}
use Rattle.og_command_run.proofs.running.Runner.run.Goals as goal

pub returns-clause-answered : goal.returns-clause-answered
returns-clause-answered g c =
    let o = c.args.outline.now in
    let s = c.args.source.now.bytes in
    let ran : Ran = record { answer = c.in_ok-answer.answer; note = c.in_ok-note.note } in
    let note = subst (λ (v : List ℤ). IfOk c.run-ended.result (λ r. IsNote s o v r.history.items (note_of ran))) c.in_ok-kept.ensures c.in_ok-note.ensures.note in
    subst (λ (n : ℕ). IsAnswer s (given o c.args.values n) ran) c.steps-limit.ensures.same
    (run_answered s (given o c.args.values c.steps-limit.result) c.run-ended.result ran c.run-ended.ensures note c.in_ok-note.ensures.none c.in_ok-answer.ensures.outcome c.in_ok-answer.ensures.refused)

pub returns-in_err-answer-clause-spawn : goal.returns-in_err-answer-clause-spawn
returns-in_err-answer-clause-spawn g c = search rules
