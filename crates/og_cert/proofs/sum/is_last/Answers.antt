use Rattle.std.proofs.Common.{◌≡◌, ◌-◌, length, Some, slice_get, sym}
use Rattle.og_linear.proofs.Pushed.{last_decides}
use Rattle.og_cert.proofs.sum.is_last.Goals as goal

pub returns-in-Some : goal.returns-in-Some
returns-in-Some c =
    let terms = c.args.terms.now in
    let at : slice_get terms (length terms - 1) ≡ Some c.in-Some.t.now = sym c.in-Some.ensures.value in
    last_decides terms c.args.var c.in-Some.t.now c.requires.0 at
