use Rattle.std.proofs.Common.{◌≡◌, ◌∙◌, List, ℕ, subst, sym}
use Rattle.og_judge.specs.Proven.{IsProvenSource}
use Rattle.og_judge.specs.NeverStuck.{IsNeverStuckSource}
use Rattle.og_report_text.specs.Yes.{SaysUnblocked}
use Rattle.og_command_check.specs.Answers.{IsChecked}
use Rattle.og_command_check.specs.Inputs.{source_of, certs_of}
use Rattle.og_command_check.proofs.Answering.{warranted, written}
use Rattle.og_command_check.proofs.Promised.{wrote_unblocked}
use Rattle.og_command_check.proofs.Unfinished.{consumed, of_failed_write}
use Rattle.og_command_check.proofs.engines.engine.Goals as goal

pub returns-clause-answer : goal.returns-clause-answer
returns-clause-answer g c =
    let json = c.args.options.json in
    let answer = c.in_ok-answer.answer in
    let checked = subst (λ (t : List ℕ). IsChecked json c.in_ok-source.source.items t answer) c.deref-2.ensures.value
    (subst (λ (s : List ℕ). IsChecked json s c.deref-2.result.now answer) c.deref.ensures.value c.in_ok-answer.ensures.answer) in
    let sound = subst (λ (s : List ℕ). answer.status ≡ 0 → IsProvenSource s) c.deref.ensures.value c.in_ok-answer.ensures.sound in
    let unblocked = subst (λ (s : List ℕ). answer.status ≡ 0 → SaysUnblocked json answer.text.items → IsNeverStuckSource s) c.deref.ensures.value c.in_ok-answer.ensures.unblocked in (
      c.in_ok-source.source.items,
      c.in_ok-source.ensures.text,
      (
        c.in_ok-certs.certs.items,
        c.in_ok-certs.ensures.text,
        written json c.in_ok-source.source.items c.in_ok-certs.certs.items answer c.in_ok-status.status _ _ checked sound unblocked c.in_ok-status.ensures.status c.in_ok-status.ensures.written,
      ),
    )

pub returns-clause-sound : goal.returns-clause-sound
returns-clause-sound g c = λ zero.
    let sound = subst (λ (s : List ℕ). c.in_ok-answer.answer.status ≡ 0 → IsProvenSource s) c.deref.ensures.value c.in_ok-answer.ensures.sound in
    (c.in_ok-source.source.items, c.in_ok-source.ensures.text, sound (sym c.in_ok-status.ensures.status ∙ zero))

pub returns-clause-unblocked : goal.returns-clause-unblocked
returns-clause-unblocked g c = λ zero wrote.
    let json = c.args.options.json in
    let answer = c.in_ok-answer.answer in
    let sound = subst (λ (s : List ℕ). answer.status ≡ 0 → IsProvenSource s) c.deref.ensures.value c.in_ok-answer.ensures.sound in
    let unblocked = subst (λ (s : List ℕ). answer.status ≡ 0 → SaysUnblocked json answer.text.items → IsNeverStuckSource s) c.deref.ensures.value c.in_ok-answer.ensures.unblocked in (
      c.in_ok-source.source.items,
      c.in_ok-source.ensures.text,
      wrote_unblocked json c.in_ok-source.source.items answer.text.items _ _ c.in_ok-status.status
          (warranted json c.in_ok-source.source.items answer.text.items answer.status c.in_ok-status.status sound unblocked c.in_ok-status.ensures.status)
          c.in_ok-status.ensures.written zero wrote,
    )

pub returns-clause-source : goal.returns-clause-source
returns-clause-source g c = consumed source_of _ _ c.in_ok-source.source.items c.in_ok-source.ensures.text c.in_ok-source.ensures.consumed

pub returns-clause-certs : goal.returns-clause-certs
returns-clause-certs g c = consumed certs_of _ _ c.in_ok-certs.certs.items c.in_ok-certs.ensures.text c.in_ok-certs.ensures.consumed

pub returns-in_err-status-clause-unfinished : goal.returns-in_err-status-clause-unfinished
returns-in_err-status-clause-unfinished g c =
    let json = c.args.options.json in
    let answer = c.in_ok-answer.answer in
    let checked = subst (λ (t : List ℕ). IsChecked json c.in_ok-source.source.items t answer) c.deref-2.ensures.value
    (subst (λ (s : List ℕ). IsChecked json s c.deref-2.result.now answer) c.deref.ensures.value c.in_ok-answer.ensures.answer) in
    let sound = subst (λ (s : List ℕ). answer.status ≡ 0 → IsProvenSource s) c.deref.ensures.value c.in_ok-answer.ensures.sound in
    let unblocked = subst (λ (s : List ℕ). answer.status ≡ 0 → SaysUnblocked json answer.text.items → IsNeverStuckSource s) c.deref.ensures.value c.in_ok-answer.ensures.unblocked in
    of_failed_write _ _ (
      c.in_ok-source.source.items,
      c.in_ok-source.ensures.text,
      (
        c.in_ok-certs.certs.items,
        c.in_ok-certs.ensures.text,
        (answer.text.items, answer.status, checked, (sound, unblocked), c.in_err-status.ensures.unfinished),
      ),
    )
