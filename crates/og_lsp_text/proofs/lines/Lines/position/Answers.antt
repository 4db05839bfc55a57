use Rattle.std.proofs.Common.{length, arith, ◌∙◌}
use Rattle.og_lsp_text.proofs.Starts.{lines_are, line_few}
use Rattle.og_lsp_text.proofs.lines.Lines.position.Goals as goal

pub overflow_cast-result : goal.overflow_cast-result
overflow_cast-result c =
    let text = c.self.inside.text.now in
    let count = lines_are text c.as_slice.result.now (c.as_slice.ensures.value ∙ c.self.invariant.starts_are) in
    omega (arith, c.starts_up_to-line.ensures.bound, count, line_few text (length text), c.self.invariant.short)
