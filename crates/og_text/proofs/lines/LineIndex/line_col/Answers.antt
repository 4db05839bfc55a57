use Rattle.std.proofs.Common.{arith, inl, inr}
use Rattle.og_text.proofs.lines.LineIndex.line_col.Goals as goal
use Rattle.og_text.proofs.lines.LineIndex.line_col.Goals.{then-ends-eq0, else-ends-eq0}

pub returns-clause-column : goal.returns-clause-column
returns-clause-column c =
    let placed = c.starts_up_to-ends.ensures.placed c.args.self.now (rw (c.as_slice.ensures.value, ← c.self.view_is) c.self.invariant) c.requires in
    let start = c.if-ends-eq0.start in
    elim c.if-ends-eq0.branch [
      | then-ends-eq0 w ↦ omega (arith, placed.column start (inl (w.if-ends-eq0.true, w.start-is)))
      | else-ends-eq0 w ↦ omega (arith, placed.column start (inr (omega arith, rw (w.start-is, c.as_slice.ensures.value) w.index.ensures)))
    ]
