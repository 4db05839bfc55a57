use Rattle.std.proofs.lemmas.Result.{err_from_is_err_and}
use Rattle.og_report_conditions.proofs.Refusing.{too_many}
use Rattle.og_report_conditions.proofs.choosing.of_all.Goals as goal

pub returns-in_err-within_limit-clause-refused : goal.returns-in_err-within_limit-clause-refused
returns-in_err-within_limit-clause-refused c =
    let p = err_from_is_err_and c.from_residual.result c.from_residual.ensures.1 in
    rw p.1 (too_many c.args.source.outline c.outline.result.now c.in_err-within_limit.field-0.0 p.0 c.outline.ensures.same c.in_err-within_limit.ensures p.2)
