use Rattle.std.proofs.Common.{◌<◌, ◌^◌, arith}
use Rattle.og_search_rows.proofs.VariableBits.{meets}
use Rattle.og_search_rows.proofs.variables.Variables.may_meet.Goals as goal

pub returns : goal.returns
returns c =
    let a = c.args.self.bits in
    let b = c.args.other.bits in
    let small : a < 2 ^ 64 = omega arith in
    let large : b < 2 ^ 64 = omega arith in
    meets a b small large
