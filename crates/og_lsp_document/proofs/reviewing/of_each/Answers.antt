use Rattle.std.proofs.Common.{[], ◌∷◌, ◌++◌, sym, subst}
use Rattle.std.specs.List.{AllZip}
use Rattle.std.proofs.lemmas.List.Elements.{All-push}
use Rattle.og_lsp_diagnostics.specs.Extents.{IsSaidIn, AreSaidIn}
use Rattle.og_lsp_diagnostics.proofs.Zips.{zip_push}
use Rattle.og_lsp_document.specs.Reviewed.{IsOfUnused}
use Rattle.og_lsp_document.proofs.reviewing.of_each.Goals as goal

pub loop-unused-preserved : goal.loop-unused-preserved
loop-unused-preserved c =
    let n = c.args.naming in
    let R = IsOfUnused n.text.now n.other n.words.now n.names.now in
    let those = c.loop-unused.yielded in
    let said = c.loop-unused.said.items in
    let one = c.in_ok-of_variable.field-0 in
    record {
      are = subst (AllZip R (those ++ c.in-Some.unused ∷ [])) (sym c.in_ok-push.ensures.items) (zip_push R those said c.in-Some.unused one c.loop-unused.invariant.are c.in_ok-of_variable.ensures.is);
      within = subst (AreSaidIn n.text.now) (sym c.in_ok-push.ensures.items) (All-push (IsSaidIn n.text.now) said one c.loop-unused.invariant.within c.in_ok-of_variable.ensures.within);
    }
