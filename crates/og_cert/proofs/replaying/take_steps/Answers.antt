use Rattle.std.proofs.Common.{◌≡◌, Err, sym, ap, ◌∙◌}
use Rattle.std.proofs.lemmas.Result.{err_from_is_err_and}
use Rattle.og_cert_text.specs.Plain.{with_steps}
use Rattle.og_cert.specs.Faults.{fault_from}
use Rattle.og_cert.specs.Steps.{stepped}
use Rattle.og_cert.specs.Held.{facts_held}
use Rattle.og_cert.specs.Answer.{located}
use Rattle.og_cert.proofs.Lines.{located_fails, steps_stop}
use Rattle.og_cert.proofs.replaying.take_steps.Goals as goal

pub returns-in_err-at_line-clause-taken : goal.returns-in_err-at_line-clause-taken
returns-in_err-at_line-clause-taken c =
    let n = c.args.variables in
    let fs = facts_held c.loop-step.held.items in
    let p = err_from_is_err_and c.from_residual.result c.from_residual.ensures.1 in
    let fails : located c.loop-step.next c.take_step.result ≡ Err p.0 = sym c.at_line.ensures ∙ c.in_err-at_line.was ∙ ap Err (sym p.2) in
    rw p.1 (λ cert.
    located_fails (λ _. facts_held c.take_step.new.held.items) c.loop-step.next c.take_step.result (stepped n fs c.step-item.result) p.0 (fault_from c.args.line n (facts_held c.args.held.now.items) (with_steps c.args.steps.now cert)) c.take_step.ensures.added fails
    (λ k e. c.loop-step.invariant.rest cert ∙ steps_stop c.loop-step.next n c.loop-step.step-index fs c.step-item.result c.args.steps.now cert k c.loop-step-test.true c.step-item.is e))
