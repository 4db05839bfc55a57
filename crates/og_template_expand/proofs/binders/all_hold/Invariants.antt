use Rattle.std.proofs.Common.{◌≡◌, map, drop}
use Rattle.og_template_expand.specs.Ranges as ranges
use Rattle.og_template_expand.specs.Scoped.{scope_of}
use Rattle.og_template_expand.specs.TreeOf.{test_of}
use Rattle.og_template_expand.proofs.binders.all_hold.Given as goal

abbrev pub invariant-loop-test : goal.invariant-loop-test
invariant-loop-test l = ranges.all_hold (scope_of l.scope) (map test_of (drop l.test-index l.tests)) ≡ ranges.all_hold (scope_of l.scope) (map test_of l.tests)
