use Rattle.std.proofs.Common.{◌≡◌, map, drop}
use Rattle.og_template_expand.specs.Values as values
use Rattle.og_template_expand.specs.Scoped.{scope_of}
use Rattle.og_template_expand.specs.TreeOf.{operated_of, linked}
use Rattle.og_template_expand.proofs.exprs.+values.Given as goal

abbrev pub invariant-chained-loop-link : goal.invariant-chained-loop-link
invariant-chained-loop-link l =
    values.chained (scope_of l.scope) l.all (linked (map operated_of (drop l.link-index l.links)))
    ≡ values.chained (scope_of l.scope) l.first (linked (map operated_of l.links))
