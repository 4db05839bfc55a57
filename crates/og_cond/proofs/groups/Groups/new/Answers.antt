use Rattle.std.proofs.Common.{◌≡◌, ◌<◌, ◌≤◌, length, map, ap, sym, ◌∙◌, arith}
use Rattle.std.proofs.lemmas.Result.{err_from_is_err_and}
use Rattle.og_cond.specs.Conditions.{conditions}
use Rattle.og_cond.specs.Crossing.{side_of}
use Rattle.og_cond.specs.Limits.{condition_limit}
use Rattle.og_cond.proofs.Grouped.{whole_grouped, memory_started}
use Rattle.og_cond.proofs.Totals.{conditions_length}
use Rattle.og_cond.proofs.groups.Groups.new.Goals as goal

pub returns-in-None : goal.returns-in-None
returns-in-None c =
    let all = conditions_length c.args.outline.now c.follows_rule.ensures in
    omega (arith, all, c.in-None.ensures)

pub returns-in_err-sides : goal.returns-in_err-sides
returns-in_err-sides c =
    let all = conditions_length c.args.outline.now c.follows_rule.ensures in
    let p = err_from_is_err_and c.from_residual.result c.from_residual.ensures.1 in
    memory_started condition_limit c.args.outline.now c.from_residual.result p.0 p.1 p.2 (omega (arith, all, c.in-Some.ensures))

pub returns : goal.returns
returns c =
    let o = c.args.outline.now in
    let all = conditions_length o c.follows_rule.ensures in
    let few : length (conditions o) ≤ condition_limit = omega (arith, all, c.in-Some.ensures) in
    (sym (whole_grouped o c.follows_rule.ensures _ (c.in_ok-sides.ensures ∙ ap (map side_of) c.processes.ensures)), few)
