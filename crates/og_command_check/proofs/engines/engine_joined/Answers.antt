use Rattle.std.proofs.Common.{◌∙◌, List, ℕ, subst, sym}
use Rattle.og_io.specs.Joined.{IsSplit}
use Rattle.og_command_check.specs.Inputs.{joined_of}
use Rattle.og_command_check.proofs.Answering.{warranted, written}
use Rattle.og_command_check.proofs.Promised.{wrote_unblocked}
use Rattle.og_command_check.proofs.Unfinished.{consumed, of_failed_write}
use Rattle.og_command_check.proofs.engines.engine_joined.Goals as goal

pub returns-clause-answer : goal.returns-clause-answer
returns-clause-answer g c =
    let source = c.split.result.0.now in
    let certs = c.split.result.1.now in
    let cut = subst (λ (i : List ℕ). IsSplit i source certs) c.deref.ensures.value c.split.ensures in (
      c.in_ok-input.input.items,
      c.in_ok-input.ensures.text,
      (
        source,
        certs,
        cut,
        written c.args.options.json source certs c.in_ok-answer.answer c.in_ok-status.status _ _ c.in_ok-answer.ensures.answer c.in_ok-answer.ensures.sound
            c.in_ok-answer.ensures.unblocked c.in_ok-status.ensures.status c.in_ok-status.ensures.written,
      ),
    )

pub returns-clause-sound : goal.returns-clause-sound
returns-clause-sound g c = λ zero.
    let source = c.split.result.0.now in
    let certs = c.split.result.1.now in
    let cut = subst (λ (i : List ℕ). IsSplit i source certs) c.deref.ensures.value c.split.ensures in
    (c.in_ok-input.input.items, c.in_ok-input.ensures.text, (source, certs, cut, c.in_ok-answer.ensures.sound (sym c.in_ok-status.ensures.status ∙ zero)))

pub returns-clause-unblocked : goal.returns-clause-unblocked
returns-clause-unblocked g c = λ zero wrote.
    let json = c.args.options.json in
    let source = c.split.result.0.now in
    let certs = c.split.result.1.now in
    let answer = c.in_ok-answer.answer in
    let cut = subst (λ (i : List ℕ). IsSplit i source certs) c.deref.ensures.value c.split.ensures in (
      c.in_ok-input.input.items,
      c.in_ok-input.ensures.text,
      (
        source,
        certs,
        cut,
        wrote_unblocked json source answer.text.items _ _ c.in_ok-status.status
            (warranted json source answer.text.items answer.status c.in_ok-status.status c.in_ok-answer.ensures.sound c.in_ok-answer.ensures.unblocked c.in_ok-status.ensures.status)
            c.in_ok-status.ensures.written zero wrote,
      ),
    )

pub returns-clause-input : goal.returns-clause-input
returns-clause-input g c = consumed joined_of _ _ c.in_ok-input.input.items c.in_ok-input.ensures.text c.in_ok-input.ensures.consumed

pub returns-in_err-status-clause-unfinished : goal.returns-in_err-status-clause-unfinished
returns-in_err-status-clause-unfinished g c =
    let source = c.split.result.0.now in
    let certs = c.split.result.1.now in
    let answer = c.in_ok-answer.answer in
    let cut = subst (λ (i : List ℕ). IsSplit i source certs) c.deref.ensures.value c.split.ensures in
    of_failed_write _ _ (
      c.in_ok-input.input.items,
      c.in_ok-input.ensures.text,
      (
        source,
        certs,
        cut,
        (answer.text.items, answer.status, c.in_ok-answer.ensures.answer, (c.in_ok-answer.ensures.sound, c.in_ok-answer.ensures.unblocked), c.in_err-status.ensures.unfinished),
      ),
    )
