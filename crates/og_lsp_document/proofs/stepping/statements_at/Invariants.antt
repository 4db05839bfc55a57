use Rattle.std.proofs.Common.{drop, map}
use Rattle.std.specs.Prelude.{flat_map}
use Rattle.og_review_text.specs.Seen.{point_of}
use Rattle.og_lsp_diagnostics.specs.Said.{text_of, rows_of}
use Rattle.og_lsp_document.specs.Stepping.{placed, AreLeft}
use Rattle.og_lsp_document.proofs.stepping.statements_at.Given as goal

abbrev pub invariant-loop-point : goal.invariant-loop-point
invariant-loop-point l = AreLeft (text_of l.teller.page) (rows_of l.teller.page) l.index l.asked (flat_map placed (map point_of (drop l.point-index l.points))) (flat_map placed (map point_of l.points)) l.statements.items
