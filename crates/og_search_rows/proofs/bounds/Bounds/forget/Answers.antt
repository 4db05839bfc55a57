use Rattle.std.proofs.Common.{arith}
use Rattle.std.proofs.lemmas.Grind.{common_steps}
use Rattle.og_search_rows.proofs.Trail.{rewound_again}
use Rattle.og_search_rows.proofs.bounds.Bounds.forget.Goals as goal

pub returns-clause-back : goal.returns-clause-back
returns-clause-back c = rewound_again _ _ c.args.mark.replaced (grind (arith, common_steps)) (grind (arith, common_steps))
