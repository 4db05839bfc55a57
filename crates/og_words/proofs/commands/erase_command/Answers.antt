use Rattle.std.proofs.Common.{codes}
use Rattle.og_words.specs.CommandLine as line
use Rattle.og_words.proofs.commands.erase_command.Goals as goal

pub returns : goal.returns
returns c =
    let one = c.with_arg-erase.ensures _ line.source c.command.ensures c.source_arg.ensures in
    c.with_arg.ensures _ (line.flag (codes "readable")) one c.flag_arg.ensures
