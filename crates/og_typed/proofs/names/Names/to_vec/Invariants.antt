use Rattle.std.proofs.Common.{◌≡◌, map, take, Bor, List, ℕ}
use Rattle.og_typed.proofs.names.Names.to_vec.Given as goal

abbrev pub invariant-loop-bytes : goal.invariant-loop-bytes
invariant-loop-bytes l = l.names.items ≡ map (λ (k : Bor (List ℕ)). k.now) (take l.bytes-index l.bytes-items)
