use Rattle.std.proofs.Common.{◌-◌, arith}
use Rattle.og_cert_read.proofs.OpenLevels.{taken_last}
use Rattle.og_cert_read.proofs.levels.take_in_last.Goals as goal

pub returns-clause-taken : goal.returns-clause-taken
returns-clause-taken c =
    taken_last c.args.levels.now.items (c.len-count.result - 1) c.index_mut-last.result.now c.take_in.new.level c.args.cert c.take_in.result (omega (arith, c.args.levels.now.ok.0)) c.index_mut-last.ensures.value c.take_in.ensures
