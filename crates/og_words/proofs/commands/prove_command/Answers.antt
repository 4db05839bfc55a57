use Rattle.std.proofs.Common.{codes}
use Rattle.og_words.specs.CommandLine as line
use Rattle.og_words.proofs.commands.prove_command.Goals as goal

pub returns : goal.returns
returns c =
    let one = c.with_arg-prove.ensures _ line.source c.command.ensures c.source_arg.ensures in
    let two = c.with_arg-prove-2.ensures _ line.budget one c.condition_budget_arg.ensures in
    let three = c.with_arg-prove-3.ensures _ line.workers two c.workers_arg-workers.ensures in
    let four = c.with_arg-prove-4.ensures _ (line.flag (codes "json")) three c.json_arg.ensures in
    let five = c.with_arg-prove-5.ensures _ (line.flag (codes "runs")) four c.usual_runs_arg.ensures in
    let six = c.with_arg-prove-6.ensures _ line.no_runs_flag five c.no_runs_arg.ensures in
    let seven = c.with_arg-prove-7.ensures _ line.suggest_flag six c.suggest_arg.ensures in
    let eight = c.with_arg-prove-8.ensures _ line.runs_limit seven c.runs_limit_arg.ensures in
    c.with_arg.ensures _ line.ranges eight c.ranges_arg.ensures
