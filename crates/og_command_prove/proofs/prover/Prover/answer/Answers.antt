use Rattle.std.proofs.lemmas.Result.{err_from_is_err_and}
use Rattle.og_report_text.specs.InputErrors.{IsFaultOfCount}
use Rattle.og_command_prove.proofs.Refusals.{count_refused, pool_refused}
use Rattle.og_command_prove.proofs.prover.Prover.answer.Goals as goal

pub returns-in_err-list-clause-refused : goal.returns-in_err-list-clause-refused
returns-in_err-list-clause-refused g c =
    let p = err_from_is_err_and c.from_residual.result c.from_residual.ensures.1 in
    rw p.1 (count_refused c.args.subject.now.outline.now c.in_err-list.field-0.0 p.0 c.in_err-list.ensures p.2)

pub returns-in_err-reported-clause-refused : goal.returns-in_err-reported-clause-refused
returns-in_err-reported-clause-refused g c =
    let p = err_from_is_err_and c.from_residual-in_err-reported.result c.from_residual-in_err-reported.ensures.1 in
    rw p.1 (pool_refused (IsFaultOfCount c.args.subject.now.outline.now) c.in_err-reported.field-0.0 p.0 p.2)
