use Rattle.std.proofs.Common.{◌≡◌, take}
use Rattle.og_text.specs.Lines.{line_starts}
use Rattle.og_text.proofs.lines.LineIndex.new.Given as goal

abbrev pub invariant-loop-at : goal.invariant-loop-at
invariant-loop-at l = l.starts.items ≡ line_starts (take l.at l.text)
