use Rattle.std.proofs.Common.{◌≡◌, None, vec_len}
use Rattle.std.specs.List.{All}
use Rattle.og_pool.proofs.answered.slots.Given as goal

abbrev pub invariant-loop : goal.invariant-loop
invariant-loop g l = record {
  len : vec_len l.slots ≡ l.counter;
  empty : All (λ slot. slot ≡ None) l.slots.items;
}
