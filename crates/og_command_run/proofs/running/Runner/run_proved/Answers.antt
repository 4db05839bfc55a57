use Rattle.std.proofs.Common.{ℕ, IfOk, subst}
use Rattle.og_theorem.specs.Sound.{IsSound}
use Rattle.og_typed.specs.Syntax.{Program}
use Rattle.og_report_text.specs.Answers.{Says}
use Rattle.og_command_run.specs.Texts.{outcome_text, finish_status}
use Rattle.og_command_run.specs.Running.{given, IsAnswerProved}
use Rattle.og_command_run.proofs.Answering.{quiet, proved_answered}
use Rattle.og_command_run.proofs.running.Runner.run_proved.Goals as goal

pub returns-clause-answered : goal.returns-clause-answered
returns-clause-answered g c =
    let o = c.args.proved.now.0 in
    let s = c.args.source.now.bytes in
    let ended = c.run_proved-ended.result in
    let answer = c.in_ok-answer.answer in
    let sound = subst IsSound c.outline-outline.ensures.same c.outline-outline.ensures.sound in
    let answered = subst (λ (p : Program). IfOk ended (λ r. Says (outcome_text p r) (finish_status r.finish) answer)) c.outline-outline.ensures.same c.in_ok-answer.ensures.outcome in
    subst (λ (n : ℕ). IsAnswerProved s (given o c.args.values n) c.args.proved.now.1 (quiet answer)) c.steps-limit.ensures.same
    (proved_answered s (given o c.args.values c.steps-limit.result) c.args.proved.now.1 ended answer sound c.run_proved-ended.ensures.runs c.run_proved-ended.ensures.proved answered c.in_ok-answer.ensures.refused)
