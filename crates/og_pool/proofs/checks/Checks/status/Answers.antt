use Rattle.std.proofs.Common.{Err, sym, subst}
use Rattle.og_cond.specs.Seen.{seen}
use Rattle.og_facts.specs.Answer.{IsFacts}
use Rattle.og_facts.specs.declared.fault.FactsError.{FactsError}
use Rattle.og_cert_text.specs.Plain.{plain_cert}
use Rattle.og_pool.proofs.Statuses.{is_missing, is_too_large, some_condition}
use Rattle.og_pool.proofs.checks.Checks.status.Goals as goal

pub returns-in_default-clause-status : goal.returns-in_default-clause-status
returns-in_default-clause-status g c = is_missing _ _ c.args.number (sym c.in_default.ensures.found)

pub returns-in-Err-Fault-clause-status : goal.returns-in-Err-Fault-clause-status
returns-in-Err-Fault-clause-status g c =
    let its = some_condition c.args.self.now.conditions.now c.args.number c.requires.within.0 c.requires.within.1 in
    is_too_large _ _ c.args.number its.0 (plain_cert c.in-Some.cert.now) c.in-Err-Fault.field-0-0 its.1 (sym c.in-Some.ensures.found)
    (subst (λ (e : FactsError). IsFacts (seen its.0) (Err e)) c.in-Err-Fault.field-0-is (c.in-Err-Fault.ensures.facts its.0 its.1))
