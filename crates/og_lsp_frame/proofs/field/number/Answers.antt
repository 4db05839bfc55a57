use Rattle.std.proofs.Common.{◌+◌, ◌*◌, ◌-◌, get_or, drop, arith, refl}
use Rattle.og_text.proofs.Values.{value_from-ge, value_step}
use Rattle.og_lsp_frame.proofs.field.number.Goals as goal

pub returns-then-next-gt-BODY_LIMIT : goal.returns-then-next-gt-BODY_LIMIT
returns-then-next-gt-BODY_LIMIT c =
    let n = c.loop-digit.value in
    let i = c.loop-digit.digit-index in
    let ds = c.args.digits.now in
    let d = get_or ds i 0 in
    omega (arith, value_from-ge (10 * n + (d - 48)) (drop (i + 1) ds), value_step n i d ds c.loop-digit-test.true refl, c.loop-digit.invariant.so_far, c.saturating_sub.ensures, c.if-next-gt-BODY_LIMIT.true)
