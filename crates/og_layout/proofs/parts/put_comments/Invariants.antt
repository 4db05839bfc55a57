use Rattle.std.proofs.Common.{◌≡◌, ◌++◌, ◌+◌, length}
use Rattle.std.specs.Prelude.{false}
use Rattle.og_layout.specs.Pieces.{comments_from}
use Rattle.og_layout.proofs.parts.put_comments.Given as goal

abbrev pub invariant-bytes : goal.invariant-bytes
invariant-bytes l =
    (l.parts.items ++ comments_from l.in_comment l.at l.rest ≡ l.initial.parts.items ++ comments_from false l.start l.stretch)
    × (l.at + length l.rest ≡ l.start + length l.stretch)

abbrev pub decreases-bytes : goal.decreases-bytes
decreases-bytes l = length l.rest
