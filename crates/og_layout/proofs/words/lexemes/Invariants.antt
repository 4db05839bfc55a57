use Rattle.std.proofs.Common.{◌≡◌, ◌++◌, map}
use Rattle.og_layout.specs.Pieces.{lexeme}
use Rattle.og_layout.proofs.words.lexemes.Given as goal

abbrev pub invariant-loop-token : goal.invariant-loop-token
invariant-loop-token l =
    (goal.iterator-loop-token).can_next l.token-iterator ×
    (goal.iterator-loop-token).is_finite l.token-iterator ×
    (l.words.items ++ map lexeme l.token-iterator.rest.items ≡ map lexeme l.fn.tokens.items)
