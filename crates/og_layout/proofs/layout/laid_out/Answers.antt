use Rattle.std.proofs.Common.{rules, ◌≤◌, ◌^◌, length}
use Rattle.og_layout.proofs.Short.{short_parts}
use Rattle.og_layout.proofs.layout.laid_out.Goals as goal

pub returns-in_err-written-clause-error : goal.returns-in_err-written-clause-error
returns-in_err-written-clause-error c =
    let short : length c.args.text.now ≤ 2 ^ 20 = short_parts c.args.text.now c.in_ok-parts.parts.items c.in_ok-parts.ensures.parts in search rules
