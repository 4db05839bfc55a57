use Rattle.std.proofs.Common.{◌≡◌, option_map}
use Rattle.og_cert_read.specs.Words.{parts_of, words_of}
use Rattle.og_cert_read.proofs.LineSteps.{with_front, size}
use Rattle.og_cert_read.proofs.line.parts.Given as goal

abbrev pub invariant-loop-rest : goal.invariant-loop-rest
invariant-loop-rest l = with_front l.parts.items (parts_of l.low (words_of (option_map (λ s. s.now) l.rest))) ≡ parts_of 0 (words_of (option_map (λ s. s.now) l.fn.text))

abbrev pub decreases-loop-rest : goal.decreases-loop-rest
decreases-loop-rest l = size (option_map (λ s. s.now) l.rest)
