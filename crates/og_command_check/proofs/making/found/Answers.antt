use Rattle.std.proofs.Common.{List, map, subst, ap, ◌∙◌}
use Rattle.std.proofs.lemmas.Result.{err_from_is_err_and}
use Rattle.og_cond.specs.Condition.{Condition}
use Rattle.og_cond.specs.Seen.{seen}
use Rattle.og_report_text.specs.InputErrors.{IsFaultOfCount}
use Rattle.og_command_check.specs.Making.{IsSearched}
use Rattle.og_command_check.proofs.Refusing.{count_refused, pool_refused, pool_spawn}
use Rattle.og_command_check.proofs.making.found.Goals as goal

pub returns-in_err-conditions-clause-refused : goal.returns-in_err-conditions-clause-refused
returns-in_err-conditions-clause-refused g c =
    let p = err_from_is_err_and c.from_residual.result c.from_residual.ensures.1 in
    rw p.1 (count_refused c.args.outline.now c.in_err-conditions.field-0.0 p.0 c.in_err-conditions.ensures p.2)

pub returns-in_err-of_search-clause-refused : goal.returns-in_err-of_search-clause-refused
returns-in_err-of_search-clause-refused g c =
    let p = err_from_is_err_and c.from_residual-in_err-of_search.result c.from_residual-in_err-of_search.ensures.1 in
    rw p.1 (pool_refused (IsFaultOfCount c.args.outline.now) c.in_err-of_search.field-0.0 p.0 p.2)

pub returns-in_err-of_search-clause-spawn : goal.returns-in_err-of_search-clause-spawn
returns-in_err-of_search-clause-spawn g c =
    let p = err_from_is_err_and c.from_residual-in_err-of_search.result c.from_residual-in_err-of_search.ensures.1 in
    rw p.1 (pool_spawn c.args.wanted.workers c.in_err-of_search.field-0.0 p.0 p.2 c.in_err-of_search.ensures.spawn)

pub returns-clause-found : goal.returns-clause-found
returns-clause-found g c =
    let w = c.args.wanted in (
      c.in_ok-conditions.ensures.1,
      subst (λ (cs : List Condition). IsSearched w.version w.limit cs c.in_ok-of_search.field-0)
          (ap (map seen) c.deref.ensures.value ∙ c.in_ok-conditions.ensures.0) c.in_ok-of_search.ensures.found,
    )
