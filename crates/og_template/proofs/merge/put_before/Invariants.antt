use Rattle.std.proofs.Common.{◌≡◌, ◌++◌, map, length}
use Rattle.og_template.specs.Words.{word_of_mark, before, behind}
use Rattle.og_template.proofs.merge.put_before.Given as goal

abbrev pub invariant-marks : goal.invariant-marks
invariant-marks l =
    (l.words.items ++ map word_of_mark (before l.at l.rest) ≡ l.initial.words.items ++ map word_of_mark (before l.at l.marks))
    × (behind l.at l.rest ≡ behind l.at l.marks)

abbrev pub decreases-marks : goal.decreases-marks
decreases-marks l = length l.rest
