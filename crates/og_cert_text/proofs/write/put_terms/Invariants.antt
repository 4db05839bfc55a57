use Rattle.std.proofs.Common.{◌≡◌, ◌++◌, drop}
use Rattle.og_cert_text.specs.Plain.{combination_of}
use Rattle.og_cert_text.specs.Lines.{combination_text}
use Rattle.og_cert_text.proofs.write.put_terms.Given as goal

abbrev pub invariant-loop-t : goal.invariant-loop-t
invariant-loop-t l = l.text.items ++ combination_text (combination_of (drop l.t-index l.terms)) ≡ l.initial.text.items ++ combination_text (combination_of l.terms)
