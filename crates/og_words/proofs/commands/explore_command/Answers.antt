use Rattle.std.proofs.Common.{codes}
use Rattle.og_words.specs.CommandLine as line
use Rattle.og_words.proofs.commands.explore_command.Goals as goal

pub returns : goal.returns
returns c =
    let one = c.with_arg-explore.ensures _ line.source c.command.ensures c.source_arg.ensures in
    let two = c.with_arg-explore-2.ensures _ (line.moments (codes "1000000")) one c.moments_arg-moments.ensures in
    let three = c.with_arg-explore-3.ensures _ line.workers two c.workers_arg-workers.ensures in
    let four = c.with_arg-explore-4.ensures _ (line.flag (codes "erased")) three c.flag_arg-erased.ensures in
    let five = c.with_arg-explore-5.ensures _ (line.flag (codes "json")) four c.json_arg.ensures in
    let six = c.with_arg-explore-6.ensures _ line.dot_flag five c.dot_arg.ensures in
    c.with_arg.ensures _ line.ranges six c.ranges_arg.ensures
