use Rattle.std.proofs.Common.{arith}
use Rattle.og_cert_read.proofs.OpenLevels.{put_part}
use Rattle.og_cert_read.proofs.levels.take_in.Goals as goal

pub returns-then-wanted-gt0 : goal.returns-then-wanted-gt0
returns-then-wanted-gt0 c =
    put_part c.args.level.now c.args.cert c.in-Part.field-0 c.in-Part.wanted c.in-Part.certs c.push.new.self c.in-Part.is (λ e. omega (arith, e, c.if-wanted-gt0.true)) c.in_ok-push.ensures.items
