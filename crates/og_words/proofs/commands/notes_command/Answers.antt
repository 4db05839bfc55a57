use Rattle.og_words.specs.CommandLine as line
use Rattle.og_words.proofs.commands.notes_command.Goals as goal

pub returns : goal.returns
returns c =
    let one = c.with_arg-notes.ensures _ line.source c.command.ensures c.source_arg.ensures in
    let two = c.with_arg-notes-2.ensures _ line.budget one c.budget_arg.ensures in
    c.with_arg.ensures _ line.values two c.values_arg.ensures
