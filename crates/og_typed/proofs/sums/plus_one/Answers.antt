use Rattle.std.proofs.Common.{◌+◌, ◌*◌, ◌^◌, pos, sym, subst, refl, arith}
use Rattle.og_typed.specs.Bounds.{IsWithin}
use Rattle.og_typed.proofs.Within.{within_fits, within_scaled, within_plus}
use Rattle.og_typed.proofs.sums.plus_one.Goals as goal

pub add-requires-clause-total : goal.add-requires-clause-total
add-requires-clause-total c =
    let one : IsWithin 1 c.constant.result = subst (IsWithin 1) (sym c.constant.ensures) (record { coefficients = refl; offset = omega arith }) in
    within_fits (2 ^ 125 + 1 * 1) _ (omega arith)
    (within_plus (2 ^ 125) (1 * 1) c.args.f _ c.requires (within_scaled (pos 1) 1 1 c.constant.result (omega arith) one))
