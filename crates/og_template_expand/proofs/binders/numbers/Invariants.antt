use Rattle.std.proofs.Common.{◌≡◌, ◌+◌, ◌-◌, ◌++◌}
use Rattle.og_template_expand.specs.Ranges.{counted_from, numbers_of}
use Rattle.og_template_expand.specs.Scoped.{range_of}
use Rattle.og_template_expand.proofs.binders.numbers.Given as goal

abbrev pub invariant-loop-more : goal.invariant-loop-more
invariant-loop-more l = l.all.items ++ counted_from (l.range.low + l.more) (l.range.count - l.more) ≡ numbers_of (range_of l.range)
