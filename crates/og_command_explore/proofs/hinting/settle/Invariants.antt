use Rattle.std.proofs.Common.{◌≡◌, length}
use Rattle.og_command_explore.proofs.hinting.settle.Given as goal

abbrev pub invariant-loop-place : goal.invariant-loop-place
invariant-loop-place l = record {
  values : length l.values ≡ length l.initial.values;
  outline : l.moment.outline ≡ l.initial.moment.outline;
}
