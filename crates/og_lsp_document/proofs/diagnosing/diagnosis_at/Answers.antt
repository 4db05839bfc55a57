use Rattle.std.proofs.Common.{◌∙◌, ap, refl, map, length}
use Rattle.std.specs.Prelude.{option_map}
use Rattle.std.proofs.lemmas.Option.{slice_get-map, slice_get_read}
use Rattle.og_cond.specs.Seen.{seen}
use Rattle.og_lsp_document.proofs.Verdicts.{verdict_at}
use Rattle.og_lsp_document.proofs.diagnosing.diagnosis_at.Goals as goal

pub diagnosis_of-requires-clause-verdict : goal.diagnosis_of-requires-clause-verdict
diagnosis_of-requires-clause-verdict c =
    let cs = c.args.conditions.now in
    let at = c.args.at in
    let condition = c.index-conditions-at.result in
    verdict_at (map seen cs) (seen condition) c.args.verdicts.now at c.verdict.result c.requires.verdicts
    (slice_get-map seen cs at ∙ ap (option_map seen) (slice_get_read cs (length cs) at condition refl c.requires.within c.index-conditions-at.is)) c.verdict.ensures
