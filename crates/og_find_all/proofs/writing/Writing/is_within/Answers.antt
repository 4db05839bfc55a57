use Rattle.std.proofs.Common.{arith}
use Rattle.og_find_all.proofs.Texts.{fits}
use Rattle.og_find_all.proofs.writing.Writing.is_within.Goals as goal

pub returns : goal.returns
returns c =
    let room = c.in-Some.ensures in
    fits c.args.self.now.findings.now c.args.limit c.in-Some.room c.in_ok-left.left c.is_some.result (omega (arith, room)) c.in_ok-left.ensures c.is_some.ensures
