use Rattle.std.proofs.Common.{◌++◌, ◌≤◌, length, map, ap, ◌∙◌, arith}
use Rattle.std.proofs.lemmas.Result.{err_from_is_err_and}
use Rattle.og_cond.specs.Conditions.{conditions}
use Rattle.og_cond.specs.Seen.{seen}
use Rattle.og_cond.specs.Limits.{condition_limit}
use Rattle.og_cond.proofs.Totals.{conditions_length}
use Rattle.og_cond.proofs.WholeList.{memory_listed}
use Rattle.og_cond.proofs.whole.conditions.Goals as goal

pub returns-in-None : goal.returns-in-None
returns-in-None c =
    let all = conditions_length c.args.outline.now c.follows_rule.ensures in
    omega (arith, all, c.in-None.ensures)

pub returns-in_err-list : goal.returns-in_err-list
returns-in_err-list c =
    let all = conditions_length c.args.outline.now c.follows_rule.ensures in
    let p = err_from_is_err_and c.from_residual.result c.from_residual.ensures.1 in
    memory_listed _ _ _ p.0 p.1 p.2 (omega (arith, all, c.in-Some.ensures))

pub returns-in_err-add_all : goal.returns-in_err-add_all
returns-in_err-add_all c =
    let all = conditions_length c.args.outline.now c.follows_rule.ensures in
    let p = err_from_is_err_and c.from_residual-in_err-add_all.result c.from_residual-in_err-add_all.ensures.1 in
    memory_listed _ _ _ p.0 p.1 p.2 (omega (arith, all, c.in-Some.ensures))

pub returns : goal.returns
returns c =
    let all = conditions_length c.args.outline.now c.follows_rule.ensures in
    let few : length (conditions c.args.outline.now) ≤ condition_limit = omega (arith, all, c.in-Some.ensures) in
    (c.in_ok-add_all.ensures ∙ ap (λ l. map seen l ++ conditions c.args.outline.now) c.in_ok-list.ensures.items, few)
