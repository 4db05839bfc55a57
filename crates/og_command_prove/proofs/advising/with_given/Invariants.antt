use Rattle.std.proofs.Common.{◌≡◌, ◌++◌, drop, map}
use Rattle.og_typed.specs.Plain.{formula}
use Rattle.og_cond.specs.Condition.{Is, Yes}
use Rattle.og_cond.specs.Seen.{hypothesis_of}
use Rattle.og_command_prove.proofs.advising.with_given.Given as goal

abbrev pub invariant-loop-suggestion : goal.invariant-loop-suggestion
invariant-loop-suggestion l =
    map hypothesis_of l.hypotheses.items ++ map (λ s. Is (Yes (formula s.assertion.now))) (drop l.suggestion-index l.given)
    ≡ map hypothesis_of l.condition.hypotheses.items ++ map (λ s. Is (Yes (formula s.assertion.now))) l.given
