use Rattle.std.proofs.Common.{◌≡◌, ◌++◌}
use Rattle.og_layout.specs.Pieces.{parts_from}
use Rattle.og_layout.proofs.parts.with_comments.Given as goal

abbrev pub invariant-loop-word : goal.invariant-loop-word
invariant-loop-word l =
    (goal.iterator-loop-word).can_next l.word-iterator ×
    (goal.iterator-loop-word).is_finite l.word-iterator ×
    (l.parts.items ++ parts_from l.text l.at l.word-iterator.rest.items ≡ parts_from l.text 0 l.fn.words.items)
