use Rattle.std.proofs.Common.{◌≡◌, map, take}
use Rattle.og_report_refusal.specs.Words.{word_of}
use Rattle.og_report_refusal.proofs.words.words_of.Given as goal

abbrev pub invariant-loop-kind : goal.invariant-loop-kind
invariant-loop-kind l = map (λ w. w.now) l.words.items ≡ map word_of (take l.kind-index l.symbols)
