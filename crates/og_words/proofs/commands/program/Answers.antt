use Rattle.og_words.specs.CommandLine as line
use Rattle.og_words.proofs.commands.program.Goals as goal

pub returns : goal.returns
returns c =
    let one = c.with_word-program.ensures _ line.prover c.without_commands.ensures c.prove_command.ensures in
    let two = c.with_word-program-2.ensures _ line.infer one c.infer_command.ensures in
    let three = c.with_word-program-3.ensures _ line.check two c.check_command.ensures in
    let four = c.with_word-program-4.ensures _ line.notes three c.notes_command.ensures in
    let five = c.with_word-program-5.ensures _ line.show four c.show_command.ensures in
    let six = c.with_word-program-6.ensures _ line.conditions five c.conditions_command.ensures in
    let seven = c.with_word-program-7.ensures _ line.finder six c.find_command.ensures in
    let eight = c.with_word-program-8.ensures _ line.erase seven c.erase_command.ensures in
    let nine = c.with_word-program-9.ensures _ line.run eight c.run_command.ensures in
    let ten = c.with_word-program-10.ensures _ line.explorer nine c.explore_command.ensures in
    let eleven = c.with_word-program-11.ensures _ line.translator ten c.promela_command.ensures in
    let twelve = c.with_word-program-12.ensures _ line.expander eleven c.expand_command.ensures in
    let thirteen = c.with_word-program-13.ensures _ line.formatter twelve c.format_command.ensures in
    let fourteen = c.with_word-program-14.ensures _ line.editor thirteen c.editor_command.ensures in
    c.with_word.ensures _ line.migrate fourteen c.migrate_command.ensures
