use Rattle.std.proofs.Common.{codes}
use Rattle.og_words.specs.CommandLine as line
use Rattle.og_words.proofs.commands.conditions_command.Goals as goal

pub returns : goal.returns
returns c =
    let one = c.with_arg-conditions.ensures _ line.source c.command.ensures c.source_arg.ensures in
    let two = c.with_arg-conditions-2.ensures _ (line.flag (codes "triples")) one c.flag_arg.ensures in
    let three = c.with_arg-conditions-3.ensures _ line.smt2_flag two c.smt2_arg.ensures in
    c.with_arg.ensures _ (line.option (codes "only")) three c.option_arg.ensures
