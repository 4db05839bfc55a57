use Rattle.og_words.specs.CommandLine as line
use Rattle.og_words.proofs.commands.find_command.Goals as goal

pub returns : goal.returns
returns c =
    let one = c.with_arg-find.ensures _ line.source c.command.ensures c.source_arg.ensures in
    let two = c.with_arg-find-2.ensures _ line.budget one c.condition_budget_arg.ensures in
    let three = c.with_arg-find-3.ensures _ line.workers two c.workers_arg-workers.ensures in
    c.with_arg.ensures _ line.version three c.version_arg.ensures
