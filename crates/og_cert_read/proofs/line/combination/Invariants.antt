use Rattle.std.proofs.Common.{◌≡◌, option_map}
use Rattle.og_cert_text.specs.Plain.{combination_of}
use Rattle.og_cert_read.specs.Words.{terms_of, words_in, words_of}
use Rattle.og_cert_read.proofs.LineSteps.{with_front, size}
use Rattle.og_cert_read.proofs.line.combination.Given as goal

abbrev pub invariant-loop-rest : goal.invariant-loop-rest
invariant-loop-rest l = with_front (combination_of l.terms.items) (terms_of (words_of (option_map (λ s. s.now) l.rest))) ≡ terms_of (words_in l.text)

abbrev pub decreases-loop-rest : goal.decreases-loop-rest
decreases-loop-rest l = size (option_map (λ s. s.now) l.rest)
