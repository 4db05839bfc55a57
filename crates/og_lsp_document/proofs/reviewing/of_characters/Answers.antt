use Rattle.std.proofs.Common.{[], ◌∷◌, ◌++◌, sym, subst}
use Rattle.std.specs.List.{AllZip}
use Rattle.std.proofs.lemmas.List.Elements.{All-push}
use Rattle.og_lsp_diagnostics.specs.Extents.{IsSaidIn, AreSaidIn}
use Rattle.og_lsp_diagnostics.specs.Said.{text_of}
use Rattle.og_lsp_diagnostics.proofs.Zips.{zip_push}
use Rattle.og_lsp_document.specs.Reviewed.{IsOfHidden}
use Rattle.og_lsp_document.proofs.reviewing.of_characters.Goals as goal

pub loop-hidden-preserved : goal.loop-hidden-preserved
loop-hidden-preserved c =
    let text = text_of c.args.teller.now.page in
    let R = IsOfHidden text in
    let those = c.loop-hidden.yielded in
    let said = c.loop-hidden.said.items in
    let one = c.in_ok-of_character.field-0 in
    record {
      are = subst (AllZip R (those ++ c.in-Some.hidden ∷ [])) (sym c.in_ok-push.ensures.items) (zip_push R those said c.in-Some.hidden one c.loop-hidden.invariant.are c.in_ok-of_character.ensures.is);
      within = subst (AreSaidIn text) (sym c.in_ok-push.ensures.items) (All-push (IsSaidIn text) said one c.loop-hidden.invariant.within c.in_ok-of_character.ensures.within);
    }
