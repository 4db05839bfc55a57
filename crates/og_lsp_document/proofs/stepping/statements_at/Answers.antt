use Rattle.std.proofs.Common.{map}
use Rattle.std.specs.Prelude.{flat_map}
use Rattle.og_review_text.specs.Seen.{point_of}
use Rattle.og_lsp_diagnostics.specs.Said.{text_of, rows_of}
use Rattle.og_lsp_document.specs.Stepping.{placed}
use Rattle.og_lsp_document.proofs.Stepped.{none_left}
use Rattle.og_lsp_document.proofs.stepping.statements_at.Goals as goal

pub returns : goal.returns
returns c =
    let page = c.args.teller.now.page in
    let points = c.args.points.now in
    none_left (text_of page) (rows_of page) c.args.index.now c.args.asked.now points c.loop-point.point-index (flat_map placed (map point_of points)) c.loop-point.statements.items c.loop-point-test.false
    c.loop-point.invariant
