use Rattle.std.proofs.Common.{◌≡◌, ◌++◌, map, drop}
use Rattle.og_template.specs.Words.{word_of_mark}
use Rattle.og_template.proofs.merge.put_marks.Given as goal

abbrev pub invariant-loop-mark : goal.invariant-loop-mark
invariant-loop-mark l = l.words.items ++ map word_of_mark (drop l.mark-index l.marks) ≡ l.initial.words.items ++ map word_of_mark l.marks
