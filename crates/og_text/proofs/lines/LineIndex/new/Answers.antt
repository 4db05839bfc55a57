use Rattle.og_text.proofs.Starts.{starts_yes, starts_other}
use Rattle.og_text.proofs.lines.LineIndex.new.Goals as goal
use Rattle.og_text.proofs.lines.LineIndex.new.Goals.{then-byte-eq10+in_ok-push, else-byte-eq10}

pub loop-at-preserved : goal.loop-at-preserved
loop-at-preserved c =
    let text = c.args.text.now in
    let at = c.loop-at.at in
    elim c.if-byte-eq10.branch [
      | then-byte-eq10+in_ok-push w ↦ let more = starts_yes text at c.loop-at-test.true w.if-byte-eq10.true in cc (w.in_ok-push.ensures.items, c.loop-at.invariant)
      | else-byte-eq10 w ↦ let same = starts_other text at c.loop-at-test.true w.if-byte-eq10.false in cc (c.loop-at.invariant)
    ]
