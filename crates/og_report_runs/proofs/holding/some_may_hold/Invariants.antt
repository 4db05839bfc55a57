use Rattle.std.proofs.Common.{◌≡◌, ℕ, ◌<◌, List, map, true, Some, slice_get}
use Rattle.og_cond.specs.Condition.{Part}
use Rattle.og_cond.specs.Seen.{parts_of}
use Rattle.og_cond.specs.Valid.{all_parts}
use Rattle.og_report_runs.proofs.holding.some_may_hold.Given as goal

abbrev pub invariant-loop-parts : goal.invariant-loop-parts
invariant-loop-parts l = (k : ℕ) → k < l.parts-index → (parts : List Part) → slice_get (map parts_of l.lists) k ≡ Some parts → all_parts l.values parts ≡ true → ⊥
