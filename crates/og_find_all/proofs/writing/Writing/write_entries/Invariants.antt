use Rattle.std.proofs.Common.{◌-◌, vec_len}
use Rattle.og_find_all.specs.Texts.{lines_from}
use Rattle.og_io.proofs.Passing.{HasPassed}
use Rattle.og_find_all.proofs.writing.Writing.write_entries.Given as goal

abbrev pub invariant-loop-index : goal.invariant-loop-index
invariant-loop-index g l =
    let f = l.self.findings.now in
    HasPassed (g.W.Write.contents l.initial.out) (g.W.Write.contents l.out) l.initial.text.items l.text.items
    (lines_from f 0 (vec_len f.own)) (lines_from f l.index (vec_len f.own - l.index))
