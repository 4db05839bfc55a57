use Rattle.std.proofs.Common.{◌/◌, ◌<◌, length, arith}
use Rattle.og_cond.proofs.SetBits.{insert_has}
use Rattle.og_cond.proofs.varset.VarSet.insert.Goals as goal

pub returns-then-var-lt-VARIABLE_LIMIT : goal.returns-then-var-lt-VARIABLE_LIMIT
returns-then-var-lt-VARIABLE_LIMIT c = λ x.
    let long : c.args.var / 64 < length c.args.self.now.words = omega (arith, c.args.self.now.full, c.if-var-lt-VARIABLE_LIMIT.true) in
    insert_has c.args.self.now.words c.args.var x long c.if-var-lt-VARIABLE_LIMIT.true
