use Rattle.std.proofs.Common.{[], ◌∷◌, ◌++◌, sym, subst}
use Rattle.std.specs.List.{AllZip}
use Rattle.std.proofs.lemmas.List.Elements.{All-push}
use Rattle.og_lsp_diagnostics.specs.Extents.{IsSaidIn, AreSaidIn}
use Rattle.og_lsp_diagnostics.specs.Remarked.{IsOfRemark}
use Rattle.og_lsp_diagnostics.specs.Said.{text_of, rows_of}
use Rattle.og_lsp_diagnostics.proofs.Zips.{zip_push}
use Rattle.og_lsp_diagnostics.proofs.teller.Teller.of_remarks.Goals as goal

pub loop-remark-preserved : goal.loop-remark-preserved
loop-remark-preserved c =
    let page = c.args.self.now.page in
    let R = IsOfRemark (text_of page) (rows_of page) in
    let those = c.loop-remark.yielded in
    let said = c.loop-remark.said.items in
    let one = c.in_ok-of_remark.field-0 in
    record {
      are = subst (AllZip R (those ++ c.in-Some.remark ∷ [])) (sym c.in_ok-push.ensures.items) (zip_push R those said c.in-Some.remark one c.loop-remark.invariant.are c.in_ok-of_remark.ensures.is);
      within = subst (AreSaidIn (text_of page)) (sym c.in_ok-push.ensures.items) (All-push (IsSaidIn (text_of page)) said one c.loop-remark.invariant.within c.in_ok-of_remark.ensures.within);
    }
