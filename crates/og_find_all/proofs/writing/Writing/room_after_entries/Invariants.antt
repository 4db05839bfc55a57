use Rattle.std.proofs.Common.{◌≡◌, ◌+◌, ◌-◌, length, vec_len}
use Rattle.og_find_all.specs.Texts.{lines_from}
use Rattle.og_find_all.proofs.writing.Writing.room_after_entries.Given as goal

abbrev pub invariant-loop-index : goal.invariant-loop-index
invariant-loop-index l =
    let f = l.self.findings.now in
    l.left + length (lines_from f 0 (vec_len f.own)) ≡ l.room + length (lines_from f l.index (vec_len f.own - l.index))
