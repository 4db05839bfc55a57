use Rattle.std.proofs.Common.{◌≡◌, ◌≤◌, ◌^◌, ◌*ℤ◌, FitsSigned, to_z, of_z, rules, ap₂, ◌∙◌, sym, subst}
use mir.Syntax.{w64, w128}
use Rattle.std.specs.Prelude.{nat_abs}
use Rattle.std.proofs.lemmas.Int.{to_z-of_z}
use Rattle.og_linear.proofs.Sizes.{product_small, product_fits}
use Rattle.og_linear.proofs.terms.weighed.Goals as goal

pub returns-clause-value : goal.returns-clause-value
returns-clause-value c =
    let wide : FitsSigned w128 c.from.result = search rules in
    let inner : to_z w128 (of_z w128 c.args.c) *ℤ to_z w128 (of_z w128 c.from.result) ≡ c.args.c *ℤ c.args.v =
    ap₂ ◌*ℤ◌ (to_z-of_z w128 c.args.c c.ranges.c) (to_z-of_z w128 c.from.result wide ∙ c.from.ensures ∙ to_z-of_z w64 c.args.v c.ranges.v) in
    rw inner (to_z-of_z w128 (c.args.c *ℤ c.args.v) (product_fits c.args.c c.args.v c.requires c.ranges.v))

pub returns-clause-small : goal.returns-clause-small
returns-clause-small c =
    let wide : FitsSigned w128 c.from.result = search rules in
    let inner : to_z w128 (of_z w128 c.args.c) *ℤ to_z w128 (of_z w128 c.from.result) ≡ c.args.c *ℤ c.args.v =
    ap₂ ◌*ℤ◌ (to_z-of_z w128 c.args.c c.ranges.c) (to_z-of_z w128 c.from.result wide ∙ c.from.ensures ∙ to_z-of_z w64 c.args.v c.ranges.v) in
    rw inner
    (subst (λ z. nat_abs z ≤ 2 ^ 94) (sym (to_z-of_z w128 (c.args.c *ℤ c.args.v) (product_fits c.args.c c.args.v c.requires c.ranges.v)))
    (product_small c.args.c c.args.v c.requires c.ranges.v))
