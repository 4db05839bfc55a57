use Rattle.std.proofs.Common.{◌∙◌, map, ap, subst}
use Rattle.std.specs.Prelude.{flat_map}
use Rattle.std.specs.List.{AllZip}
use Rattle.std.proofs.lemmas.Result.{IfOk-weaker}
use Rattle.og_cond.specs.Seen.{seen}
use Rattle.og_review_text.specs.Seen.{point_of}
use Rattle.og_lsp_diagnostics.specs.Said.{text_of, rows_of}
use Rattle.og_lsp_document.specs.Stepping.{all_kept, placed, IsStatement}
use Rattle.og_lsp_document.proofs.Stepped.{counted_statements, counted_within}
use Rattle.og_lsp_document.proofs.stepping.statements_of.Goals as goal

pub returns-clause-statements : goal.returns-clause-statements
returns-clause-statements c =
    let page = c.args.teller.now.page in
    let o = c.args.outline.now in
    let all = all_kept (rows_of page) (map seen c.args.conditions.now) c.args.diagnoses.now in
    let places = ap (map point_of) c.deref.ensures.value ∙ c.in_ok-walk.ensures.0 in
    IfOk-weaker c.statements_at.result _ _
    (λ v those.
    subst (λ ps. AllZip (IsStatement (text_of page) (rows_of page) o all) (flat_map placed ps) v.items) places
    (subst (λ p. AllZip (IsStatement (text_of page) (rows_of page) p all) (flat_map placed (map point_of c.deref.result.now)) v.items) c.in_ok-index.ensures
    (counted_statements (text_of page) (rows_of page) c.in_ok-index.index c.in_ok-asked.asked all c.in_ok-asked.ensures (flat_map placed (map point_of c.deref.result.now)) v.items those)))
    c.statements_at.ensures

pub returns-clause-lies : goal.returns-clause-lies
returns-clause-lies c =
    let page = c.args.teller.now.page in
    IfOk-weaker c.statements_at.result _ _
    (λ v those. counted_within (text_of page) (rows_of page) c.in_ok-index.index c.in_ok-asked.asked (flat_map placed (map point_of c.deref.result.now)) v.items those)
    c.statements_at.ensures
