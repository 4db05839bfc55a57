-- What is printed for the outline of a source, and the status.
use Rattle.std.specs.Prelude.{Bool, true, false}
use Rattle.og_typed.specs.Syntax.{Program}
use Rattle.og_typed.specs.Erase.{erased}
use Rattle.og_erase.specs.Collected.{raw_of}
use Rattle.og_print.specs.Print.{program_text}
use Rattle.og_parse.specs.Trees.{Outline}
use Rattle.og_erase_readable.specs.Readable.{readable}
use Rattle.og_report_text.specs.Answers.{Says}
use Rattle.og_report_text.specs.declared.answer.Answer.{Answer}

-- the tree of the program without its auxiliaries, with readable relations or collected ones
abbrev pub erased_tree : Bool → Program → Outline
erased_tree true o = readable (raw_of (erased o))
erased_tree false o = raw_of (erased o)

-- that program without its assertions, with status 0
abbrev pub IsErased : Bool → Program → Answer → Type 0
IsErased is_readable o answer = Says (program_text (erased_tree is_readable o)) 0 answer
