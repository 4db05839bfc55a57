use Rattle.std.proofs.Common.{◌≡◌, ◌+◌, [], vec_len}
use Rattle.std.specs.List.{All}
use Rattle.og_pool.specs.Drawing.{IsOne}
use Rattle.og_pool.proofs.draws.Draws.one_each.Given as goal

abbrev pub invariant-loop : goal.invariant-loop
invariant-loop l = record {
  mine : l.drawer.source ≡ l.self;
  counted : vec_len l.drawers + 1 ≡ l.counter;
  all : l.drawer.workers + vec_len l.drawers ≡ l.workers;
  fresh : l.drawer.drawn ≡ [];
  each : All (IsOne l.self) l.drawers.items;
}
