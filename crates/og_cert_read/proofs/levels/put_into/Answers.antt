use Rattle.std.proofs.Common.{◌∙◌}
use Rattle.og_cert_read.proofs.OpenLevels.{put_second, put_last, put_part}
use Rattle.og_cert_read.proofs.levels.put_into.Goals as goal

pub returns-in_ok-new-in-Second-2 : goal.returns-in_ok-new-in-Second-2
returns-in_ok-new-in-Second-2 c =
    put_second c.args.level c.args.cert c.in-Second.first c.in_ok-new-in-Second.field-0.value c.in_ok-new-in-Second-2.field-0.value c.in-Second.form c.in-Second.is
    c.in_ok-new-in-Second.ensures.ok c.in_ok-new-in-Second-2.ensures.ok

pub returns-then-wanted-eq0 : goal.returns-then-wanted-eq0
returns-then-wanted-eq0 c =
    put_last c.args.level c.args.cert c.in-Part.fact c.in-Part.wanted c.in-Part.certs c.shrink_to_fit.new.self c.in-Part.is c.if-wanted-eq0.true (c.shrink_to_fit.ensures.items ∙ c.in_ok-push-in-Part.ensures.items)

pub returns-else-wanted-eq0 : goal.returns-else-wanted-eq0
returns-else-wanted-eq0 c =
    put_part c.args.level c.args.cert c.in-Part.fact c.in-Part.wanted c.in-Part.certs c.push.new.self c.in-Part.is c.if-wanted-eq0.false c.in_ok-push-in-Part.ensures.items
