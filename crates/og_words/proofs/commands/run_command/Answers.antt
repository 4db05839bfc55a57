use Rattle.std.proofs.Common.{codes}
use Rattle.og_words.specs.CommandLine as line
use Rattle.og_words.proofs.commands.run_command.Goals as goal

pub returns : goal.returns
returns c =
    let one = c.with_arg-run.ensures _ line.source c.command.ensures c.source_arg.ensures in
    let two = c.with_arg-run-2.ensures _ line.limit one c.limit_arg.ensures in
    let three = c.with_arg-run-3.ensures _ (line.flag (codes "erased")) two c.flag_arg-erased.ensures in
    let four = c.with_arg-run-4.ensures _ line.certs_option three c.run_certs_arg.ensures in
    let five = c.with_arg-run-5.ensures _ line.schedule_option four c.schedule_arg.ensures in
    c.with_arg.ensures _ line.values five c.values_arg-values.ensures
