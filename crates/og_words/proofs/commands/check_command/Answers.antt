use Rattle.std.proofs.Common.{codes}
use Rattle.og_words.specs.CommandLine as line
use Rattle.og_words.proofs.commands.check_command.Goals as goal

pub returns : goal.returns
returns c =
    let one = c.with_arg-check.ensures _ line.source c.command.ensures c.source_arg.ensures in
    let two = c.with_arg-check-2.ensures _ line.certs one c.certs_arg.ensures in
    let three = c.with_arg-check-3.ensures _ line.workers two c.workers_arg-workers.ensures in
    c.with_arg.ensures _ (line.flag (codes "json")) three c.json_arg.ensures
