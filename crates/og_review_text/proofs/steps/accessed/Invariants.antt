use Rattle.std.proofs.Common.{◌≡◌, ◌-◌, ◌++◌}
use Rattle.std.specs.Prelude.{filter}
use Rattle.std.specs.List.{range_with_len}
use Rattle.og_review_text.specs.Seen.{step_of, steps_of}
use Rattle.og_review_text.specs.Steps.{is_accessed, accessed}
use Rattle.og_review_text.proofs.steps.accessed.Given as goal

abbrev pub invariant-loop-var : goal.invariant-loop-var
invariant-loop-var l =
    l.accessed.items ++ filter (is_accessed (steps_of l.steps) (step_of l.step) l.access) (range_with_len l.var (l.vars - l.var))
    ≡ accessed (steps_of l.steps) l.vars (step_of l.step) l.access
