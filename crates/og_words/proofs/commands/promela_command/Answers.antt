use Rattle.std.proofs.Common.{codes}
use Rattle.og_words.specs.CommandLine as line
use Rattle.og_words.proofs.commands.promela_command.Goals as goal

pub returns : goal.returns
returns c =
    let one = c.with_arg-promela.ensures _ line.source c.command.ensures c.source_arg.ensures in
    let two = c.with_arg-promela-2.ensures _ (line.flag (codes "erased")) one c.flag_arg-erased.ensures in
    c.with_arg.ensures _ line.ranges two c.ranges_arg.ensures
