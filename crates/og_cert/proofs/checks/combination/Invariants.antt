use Rattle.std.proofs.Common.{◌≡◌, drop}
use Rattle.og_cert_text.specs.Plain.{combination_of}
use Rattle.og_cert.specs.Checks.{add_terms, combination}
use Rattle.og_cert.specs.Held.{facts_held}
use Rattle.og_cert.proofs.checks.combination.Given as goal

abbrev pub invariant-loop-term : goal.invariant-loop-term
invariant-loop-term l =
    add_terms l.variables (facts_held l.held) l.sum (combination_of (drop l.term-index l.terms)) ≡ combination l.variables (facts_held l.held) (combination_of l.terms)
