use Rattle.std.proofs.lemmas.Result.{err_from_is_err_and}
use Rattle.og_command_check.proofs.Refusing.{certs_refused}
use Rattle.og_command_check.proofs.making.migrated.Goals as goal

pub returns-in_err-text-clause-refused : goal.returns-in_err-text-clause-refused
returns-in_err-text-clause-refused c =
    let p = err_from_is_err_and c.from_residual.result c.from_residual.ensures.1 in
    rw p.1 (certs_refused c.args.certs.now c.in_err-text.field-0.0 p.0 c.in_err-text.ensures.refused p.2)
