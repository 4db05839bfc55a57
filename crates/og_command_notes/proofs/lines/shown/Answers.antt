use Rattle.std.proofs.Common.{sym, arith}
use Rattle.std.proofs.lemmas.List.{take_all, length-take-le}
use Rattle.og_command_notes.proofs.lines.shown.Goals as goal

pub returns-then-blocks-le-SHOWN : goal.returns-then-blocks-le-SHOWN
returns-then-blocks-le-SHOWN c = sym (take_all 40 c.args.blocks.now c.if-blocks-le-SHOWN.true)

pub slice_bounds-result-end : goal.slice_bounds-result-end
slice_bounds-result-end c = sym (length-take-le 40 c.args.blocks.now (omega arith))
