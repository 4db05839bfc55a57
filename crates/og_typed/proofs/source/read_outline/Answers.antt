use Rattle.std.proofs.Common.{sym, subst}
use Rattle.std.proofs.lemmas.Result.{err_from_is_err_and}
use Rattle.og_text.specs.Cut.{AreTokensOf}
use Rattle.og_parse.specs.TreeOf.{tree_of}
use Rattle.og_typed.proofs.Resolution.{not_resolved}
use Rattle.og_typed.proofs.source.read_outline.Goals as goal

pub returns-in_err-resolve-clause-fault : goal.returns-in_err-resolve-clause-fault
returns-in_err-resolve-clause-fault c =
    let p = err_from_is_err_and c.from_residual-in_err-resolve.result c.from_residual-in_err-resolve.ensures.1 in
    let cut = subst (AreTokensOf c.args.bytes.now) (sym c.as_slice.ensures.value) c.in_ok-tokens.ensures.tokens in
    rw p.1 (not_resolved c.args.bytes.now c.as_slice.result.now (tree_of c.in_ok-raw.raw) c.in_err-resolve.field-0.0 p.0 cut c.in_ok-raw.ensures.0 c.in_ok-raw.ensures.1 c.in_err-resolve.ensures p.2)
