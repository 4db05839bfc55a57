use Rattle.std.proofs.Common.{codes}
use Rattle.og_words.specs.CommandLine as line
use Rattle.og_words.proofs.commands.format_command.Goals as goal

pub returns : goal.returns
returns c =
    let one = c.with_arg-format.ensures _ line.source c.command.ensures c.source_arg.ensures in
    c.with_arg.ensures _ (line.flag (codes "check")) one c.flag_arg.ensures
