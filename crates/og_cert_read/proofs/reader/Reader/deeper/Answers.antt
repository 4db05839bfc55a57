use Rattle.std.proofs.Common.{refl, arith}
use Rattle.og_cert_read.proofs.Taking.{depth_all}
use Rattle.og_cert_read.proofs.reader.Reader.deeper.Goals as goal

pub returns-then-len-ge-DEPTH_LIMIT : goal.returns-then-len-ge-DEPTH_LIMIT
returns-then-len-ge-DEPTH_LIMIT c =
    (omega (arith, depth_all c.args.self.now.steps.items c.args.self.now.levels.items, c.args.self.now.levels.ok.0, c.len.ensures, c.if-len-ge-DEPTH_LIMIT.true), refl)

pub returns : goal.returns
returns c = omega (arith, depth_all c.args.self.now.steps.items c.args.self.now.levels.items, c.args.self.now.levels.ok.0, c.len.ensures, c.if-len-ge-DEPTH_LIMIT.false)
