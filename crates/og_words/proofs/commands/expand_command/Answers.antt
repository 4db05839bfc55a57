use Rattle.std.proofs.Common.{codes}
use Rattle.og_words.specs.CommandLine as line
use Rattle.og_words.proofs.commands.expand_command.Goals as goal

pub returns : goal.returns
returns c =
    let one = c.with_arg-expand.ensures _ line.template c.command.ensures c.word_arg-template.ensures in
    let two = c.with_arg-expand-2.ensures _ (line.flag (codes "map")) one c.flag_arg.ensures in
    c.with_arg.ensures _ line.values two c.values_arg-values.ensures
