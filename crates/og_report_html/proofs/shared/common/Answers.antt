use Rattle.std.proofs.Common.{◌≤◌, length, arith}
use Rattle.og_report_html.specs.Shared.{common}
use Rattle.og_report_html.proofs.Cuts.{common_past}
use Rattle.og_report_html.proofs.shared.common.Goals as goal

pub returns-else-count-second : goal.returns-else-count-second
returns-else-count-second c =
    let past : length c.args.second.now ≤ c.loop-count.count = omega (arith, c.if-count-second.false) in
    common_past c.args.source.now c.args.first.now c.args.second.now c.loop-count.count (common c.args.source.now c.args.first.now c.args.second.now) past c.loop-count.invariant
