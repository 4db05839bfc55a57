use Rattle.std.proofs.Common.{map}
use Rattle.std.proofs.lemmas.Result.{IfOk-weaker}
use Rattle.og_cond.specs.Seen.{seen}
use Rattle.og_lsp_document.specs.Parts.{asked}
use Rattle.og_lsp_diagnostics.specs.Said.{text_of, rows_of}
use Rattle.og_lsp_document.proofs.Counting.{are_parts}
use Rattle.og_lsp_document.proofs.parts.parts_of.Goals as goal

pub returns-clause-parts : goal.returns-clause-parts
returns-clause-parts c =
    let page = c.args.teller.now.page in
    IfOk-weaker c.parts_at.result _ _ (λ v those. are_parts (text_of page) (asked (rows_of page) (map seen c.args.conditions.now) c.args.diagnoses.now) c.in_ok-asked.asked v.items c.parts_at.ensures.order c.in_ok-asked.ensures those) c.parts_at.ensures.parts
