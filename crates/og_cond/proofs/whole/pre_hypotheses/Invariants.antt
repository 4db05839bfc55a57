use Rattle.std.proofs.Common.{◌≡◌, ◌+◌, ◌++◌, map, drop}
use Rattle.og_cond.specs.Conditions.{starts, pre_hypotheses}
use Rattle.og_cond.specs.Seen.{hypothesis_of}
use Rattle.og_cond.proofs.whole.pre_hypotheses.Given as goal

abbrev pub invariant-loop-value : goal.invariant-loop-value
invariant-loop-value l = record {
  so_far : map hypothesis_of l.hypotheses.items ++ starts l.var (drop l.value-index l.values) ≡ pre_hypotheses l.outline;
  place : l.var ≡ l.outline.vars + l.value-index;
}
