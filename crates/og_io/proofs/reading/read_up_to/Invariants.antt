use Rattle.std.proofs.Common.{◌<◌, ◌≤◌, length, vec_len}
use Rattle.std.specs.Io.KnownBytes.{Consumes}
use Rattle.og_io.proofs.reading.read_up_to.Given as goal

abbrev pub invariant-loop : goal.invariant-loop
invariant-loop g l = record {
  taken : Consumes (g.R.Read.remaining l.initial.reader) (g.R.Read.remaining l.reader) l.text.items;
  within : length l.text.items ≤ l.most;
  room : 0 < vec_len l.chunk;
  some : 0 < l.counter → 0 < l.most;
}
