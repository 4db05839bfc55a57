use Rattle.std.proofs.Common.{◌+◌, ◌*◌, ◌^◌, negsuc, sym, subst, arith}
use Rattle.og_typed.specs.Bounds.{IsWithin}
use Rattle.og_typed.proofs.Within.{within_fits, within_scaled, within_plus}
use Rattle.og_typed.proofs.sums.minus.Goals as goal

pub add-requires-clause-product : goal.add-requires-clause-product
add-requires-clause-product c = within_fits (1 * 2 ^ 124) _ (omega arith) (within_scaled (negsuc 0) 1 (2 ^ 124) c.args.g.now (omega arith) c.requires.right)

pub add-requires-clause-total : goal.add-requires-clause-total
add-requires-clause-total c =
    within_fits (2 ^ 124 + 1 * 2 ^ 124) _ (omega arith)
    (within_plus (2 ^ 124) (1 * 2 ^ 124) c.args.f _ c.requires.left (within_scaled (negsuc 0) 1 (2 ^ 124) c.args.g.now (omega arith) c.requires.right))

pub returns-clause-small : goal.returns-clause-small
returns-clause-small c =
    subst (IsWithin (2 ^ 125)) (sym c.in_ok-add.ensures.ok)
    (within_plus (2 ^ 124) (1 * 2 ^ 124) c.args.f _ c.requires.left (within_scaled (negsuc 0) 1 (2 ^ 124) c.args.g.now (omega arith) c.requires.right))
