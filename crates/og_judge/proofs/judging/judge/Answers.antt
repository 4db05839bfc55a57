use Rattle.std.proofs.Common.{ℕ, List, subst}
use Rattle.std.proofs.lemmas.Result.{err_from_is_err_and}
use Rattle.og_typed.specs.Source.{IsSource}
use Rattle.og_judge.proofs.Refusing.{source_refused, whole_refused}
use Rattle.og_judge.proofs.judging.judge.Goals as goal

pub returns-in_err-source-clause-refused : goal.returns-in_err-source-clause-refused
returns-in_err-source-clause-refused g c =
    let p = err_from_is_err_and c.from_residual.result c.from_residual.ensures.1 in
    rw p.1 (source_refused c.args.source.now c.args.certs.now c.in_err-source.field-0.0 p.0 c.in_err-source.ensures.fault p.2)

pub returns-in-Err-clause-refused : goal.returns-in-Err-clause-refused
returns-in-Err-clause-refused g c =
    let o = c.outline.result.now in
    let is = subst (λ (s : List ℕ). IsSource s o) c.in_ok-source.ensures.same c.outline.ensures.source in
    whole_refused c.args.source.now c.args.certs.now o c.in-Err.refusal is c.in-Err.ensures.refused
