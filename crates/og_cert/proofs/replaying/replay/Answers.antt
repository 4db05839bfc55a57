use Rattle.std.proofs.Common.{◌≡◌, ◌++◌, None, sym, ap₂, ◌∙◌, subst}
use Rattle.std.proofs.lemmas.Result.{err_from_is_err_and}
use Rattle.og_cert_text.specs.Plain.{plain_cert}
use Rattle.og_cert.specs.Faults.{fault_from, first_fault}
use Rattle.og_cert.specs.Held.{facts_held}
use Rattle.og_cert.specs.Answer.{FailsWith}
use Rattle.og_cert.proofs.Faultless.{no_fault}
use Rattle.og_cert.proofs.Refuting.{closed_is_valid}
use Rattle.og_cert.proofs.Answering.{replay_fails}
use Rattle.og_cert.proofs.replaying.replay.Goals as goal

pub returns-in_err-replay_cert-clause-answer : goal.returns-in_err-replay_cert-clause-answer
returns-in_err-replay_cert-clause-answer c =
    let n = c.args.facts.now.variables in
    let fs = c.args.facts.now.facts in
    let cert = plain_cert c.args.cert.now in
    let p = err_from_is_err_and c.from_residual-in_err-replay_cert.result c.from_residual-in_err-replay_cert.ensures.1 in
    let begun : facts_held c.hold_all.new.held.items ≡ fs = c.in_ok-hold_all.ensures.added ∙ ap₂ (λ h gs. facts_held h ++ gs) c.in_ok-held.ensures.items c.as_slice-2.ensures in
    let same = ap₂ (λ m gs. fault_from 1 m gs cert) c.variables.ensures begun in
    rw p.1 (replay_fails n fs cert c.in_err-replay_cert.field-0.0 p.0 (subst (FailsWith c.in_err-replay_cert.field-0.0) same c.in_err-replay_cert.ensures.replays) p.2)

pub returns-clause-answer : goal.returns-clause-answer
returns-clause-answer c =
    let n = c.args.facts.now.variables in
    let fs = c.args.facts.now.facts in
    let cert = plain_cert c.args.cert.now in
    let begun : facts_held c.hold_all.new.held.items ≡ fs = c.in_ok-hold_all.ensures.added ∙ ap₂ (λ h gs. facts_held h ++ gs) c.in_ok-held.ensures.items c.as_slice-2.ensures in
    let first : first_fault n fs cert ≡ None = sym (ap₂ (λ m gs. fault_from 1 m gs cert) c.variables.ensures begun) ∙ c.in_ok-replay_cert.ensures.replays.0 in
    ((no_fault cert 1 n fs).1 first, first)

pub returns-clause-sound : goal.returns-clause-sound
returns-clause-sound c = λ condition e. closed_is_valid condition c.args.facts.now.variables c.args.facts.now.facts (plain_cert c.args.cert.now) e (returns-clause-answer c).0
