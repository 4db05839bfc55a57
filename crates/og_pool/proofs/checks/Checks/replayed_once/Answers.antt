use Rattle.std.proofs.Common.{◌≡◌, IfOk, subst, ◌∙◌}
use Rattle.og_cert_text.specs.Plain.{plain_cert}
use Rattle.og_pool.specs.declared.status.Status.{Status}
use Rattle.og_pool.proofs.Statuses.{is_fresh}
use Rattle.og_pool.proofs.checks.Checks.replayed_once.Goals as goal

pub returns-in_err-remember-clause-keeps : goal.returns-in_err-remember-clause-keeps
returns-in_err-remember-clause-keeps g c =
    let within = c.requires.within in
    let is = is_fresh c.args.self.now.conditions.now c.args.self.now.certs.now c.args.number c.args.list.now (plain_cert c.args.cert.now) within.0 within.1 c.requires.facts c.requires.cert in
    c.in_err-remember.ensures c.args.self.now.conditions.now c.args.self.now.certs.now (within.0, within.1, c.in_ok-status-2.ensures ∙ is) c.requires.keeps

pub returns-clause-status : goal.returns-clause-status
returns-clause-status g c =
    let within = c.requires.within in
    c.in_ok-status-2.ensures
    ∙ is_fresh c.args.self.now.conditions.now c.args.self.now.certs.now c.args.number c.args.list.now (plain_cert c.args.cert.now) within.0 within.1 c.requires.facts c.requires.cert

pub returns-clause-keeps : goal.returns-clause-keeps
returns-clause-keeps g c =
    let within = c.requires.within in
    let is = is_fresh c.args.self.now.conditions.now c.args.self.now.certs.now c.args.number c.args.list.now (plain_cert c.args.cert.now) within.0 within.1 c.requires.facts c.requires.cert in
    c.in_ok-remember.ensures c.args.self.now.conditions.now c.args.self.now.certs.now (within.0, within.1, c.in_ok-status-2.ensures ∙ is) c.requires.keeps

pub returns-then-is_short-clause-status : goal.returns-then-is_short-clause-status
returns-then-is_short-clause-status g c =
    let within = c.requires.within in
    let is = is_fresh c.args.self.now.conditions.now c.args.self.now.certs.now c.args.number c.args.list.now (plain_cert c.args.cert.now) within.0 within.1 c.requires.facts c.requires.cert in
    subst (λ (t : Status). IfOk c.replayed.result (λ s. s ≡ t)) is c.replayed.ensures
