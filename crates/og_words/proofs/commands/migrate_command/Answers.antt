use Rattle.og_words.specs.CommandLine as line
use Rattle.og_words.proofs.commands.migrate_command.Goals as goal

pub returns : goal.returns
returns c = c.with_arg.ensures _ line.certs c.command.ensures c.certs_arg.ensures
