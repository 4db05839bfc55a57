use Rattle.std.proofs.Common.{sym, subst}
use Rattle.og_text.specs.Cut.{AreTokensOf}
use Rattle.og_parse.specs.TreeOf.{tree_of}
use Rattle.og_template_outline.proofs.ReadAgain.{outline_text_again, source_again}
use Rattle.og_template_outline.proofs.again.read_again.Goals as goal

pub returns-clause-text : goal.returns-clause-text
returns-clause-text c =
    let cut = subst (AreTokensOf c.args.text.now) (sym c.deref.ensures.value) c.in_ok-tokens.ensures in
    outline_text_again c.args.text.now (tree_of c.args.raw.now) (tree_of c.in_ok-again.again) c.deref.result.now c.in_ok-outline.outline c.requires cut c.in_ok-again.ensures c.in_ok-outline.ensures

pub returns-clause-outline : goal.returns-clause-outline
returns-clause-outline c =
    let cut = subst (AreTokensOf c.args.text.now) (sym c.deref.ensures.value) c.in_ok-tokens.ensures in
    source_again c.args.text.now (tree_of c.args.raw.now) (tree_of c.in_ok-again.again) c.deref.result.now c.in_ok-outline.outline cut c.in_ok-again.ensures c.in_ok-outline.ensures
