use Rattle.std.proofs.Common.{◌≡◌, ◌++◌}
use Rattle.og_template.specs.Words.{merged}
use Rattle.og_template.proofs.merge.merged.Given as goal

abbrev pub invariant-loop-token : goal.invariant-loop-token
invariant-loop-token l =
    (goal.iterator-loop-token).can_next l.token-iterator ×
    (goal.iterator-loop-token).is_finite l.token-iterator ×
    (l.words.items ++ merged l.token-iterator.rest.items l.rest ≡ merged l.fn.tokens.items l.marks)
