use Rattle.std.proofs.Common.{ℕ, ℤ, List, Option, Result, None, map, drop, replicate}
use Rattle.og_command_run.specs.Words.{Reads}
use Rattle.og_command_run.proofs.words.given.Given as goal

abbrev pub invariant-loop-word : goal.invariant-loop-word
invariant-loop-word l = (r : Result (List (Option ℤ)) (List ℕ)) → Reads l.names l.given.items (map (λ w. w.now) (drop l.word-index l.words)) r → Reads l.names (replicate l.vars None) (map (λ w. w.now) l.words) r
