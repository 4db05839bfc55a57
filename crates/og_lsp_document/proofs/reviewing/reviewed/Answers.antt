use Rattle.std.proofs.Common.{sym, subst}
use Rattle.std.proofs.lemmas.List.Elements.{All-append}
use Rattle.og_lsp_diagnostics.specs.Extents.{IsSaidIn, AreSaidIn}
use Rattle.og_lsp_diagnostics.specs.Said.{text_of}
use Rattle.og_lsp_document.proofs.reviewing.reviewed.Goals as goal

pub returns-clause-within : goal.returns-clause-within
returns-clause-within c =
    let text = text_of c.args.teller.now.page in
    let claims = c.in_ok-said.said.items in
    let variables = c.in_ok-variables.variables.items in
    let characters = c.in_ok-characters.characters.items in
    let both = subst (AreSaidIn text) (sym c.in_ok-append.ensures.items) (All-append (IsSaidIn text) claims variables c.in_ok-said.ensures.within c.in_ok-variables.ensures.within) in
    subst (AreSaidIn text) (sym c.in_ok-append-2.ensures.items) (All-append (IsSaidIn text) c.append.new.self.items characters both c.in_ok-characters.ensures.within)
