use Rattle.std.proofs.Common.{ℤ, ◌*ℤ◌, ap₂, ◌∙◌, rules, FitsSigned}
use mir.Syntax.{w128}
use Rattle.std.proofs.lemmas.Int.{to_z-of_z}
use Rattle.og_search_rows.proofs.Products.{sum_of}
use Rattle.og_search_rows.proofs.number.mixed.Goals as goal

pub returns : goal.returns
returns c =
    let first : FitsSigned w128 c.in_ok-product.field-0 = search rules in
    let second : FitsSigned w128 c.in_ok-product-2.field-0 = search rules in
    sum_of c.checked_add.result _ _ _ _ _ _ _
    (to_z-of_z w128 c.in_ok-product.field-0 first)
    (to_z-of_z w128 c.in_ok-product-2.field-0 second)
    (c.in_ok-product.ensures.1 ∙ ap₂ (λ (x y : ℤ). x *ℤ y) (to_z-of_z w128 c.args.m c.ranges.m) (to_z-of_z w128 c.args.a c.ranges.a))
    (c.in_ok-product-2.ensures.1 ∙ ap₂ (λ (x y : ℤ). x *ℤ y) (to_z-of_z w128 c.args.k c.ranges.k) (to_z-of_z w128 c.args.b c.ranges.b))
    c.checked_add.ensures
