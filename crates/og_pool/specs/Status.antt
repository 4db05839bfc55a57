-- The status of a condition: a function of the condition and of its certificate.
use Rattle.std.specs.Prelude.{ℕ, List, Option, Some, None, Result, Ok, Err}
use Rattle.og_cond.specs.Condition as plain
use Rattle.og_facts.specs.Facts.{Fact, facts_of}
use Rattle.og_facts.specs.declared.fault.FactsFault.{FactsFault}
use Rattle.og_cert_text.specs.Tree.{Cert}
use Rattle.og_cert.specs.Faults.{first_fault}
use Rattle.og_cert.specs.declared.fault.ReplayFault.{ReplayFault}
use Rattle.og_pool.specs.declared.status.Status.{Status}
use Rattle.og_pool.specs.declared.status.Status.TheVariants as status

-- by the first fault of the certificate
abbrev pub by_fault : Option ReplayFault → Status
by_fault None = status.Proved
by_fault (Some fault) = status.Failed fault

-- by the facts, which may be too many or too large
abbrev pub by_facts : ℕ → Result (List Fact) FactsFault → Cert → Status
by_facts n (Err e) proof = status.TooLarge
by_facts n (Ok fs) proof = by_fault (first_fault n fs proof)

-- by the certificate, if there is one
abbrev pub by_cert : plain.Condition → Option Cert → Status
by_cert c None = status.Missing
by_cert c (Some proof) = by_facts c.variables (facts_of c) proof
