use Rattle.std.proofs.Common.{codes}
use Rattle.og_words.specs.CommandLine as line
use Rattle.og_words.proofs.commands.infer_command.Goals as goal

pub returns : goal.returns
returns c =
    let one = c.with_arg-infer.ensures _ line.source c.command.ensures c.source_arg.ensures in
    let two = c.with_arg-infer-2.ensures _ (line.flag (codes "aux")) one c.aux_arg.ensures in
    let three = c.with_arg-infer-3.ensures _ line.infer_budget two c.infer_budget_arg.ensures in
    let four = c.with_arg-infer-4.ensures _ line.questions three c.questions_arg.ensures in
    let five = c.with_arg-infer-5.ensures _ line.workers four c.workers_arg-workers.ensures in
    let six = c.with_arg-infer-6.ensures _ (line.flag (codes "json")) five c.json_arg.ensures in
    c.with_arg.ensures _ line.ranges six c.ranges_arg.ensures
