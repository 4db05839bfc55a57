use Rattle.std.proofs.Common.{◌≡◌, drop, ◌&&◌}
use Rattle.std.specs.List.{list_all}
use Rattle.og_cert_text.specs.Plain.{combination_of}
use Rattle.og_cert_text.specs.Lines.{is_factor, is_ref, is_combination}
use Rattle.og_cert_text.proofs.limits.is_combination.Given as goal

abbrev pub invariant-loop-t : goal.invariant-loop-t
invariant-loop-t l = list_all (λ t. is_factor t.0 && is_ref t.1) (combination_of (drop l.t-index l.terms)) ≡ is_combination (combination_of l.terms)
