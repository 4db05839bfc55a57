-- The program that the parts of an outline hold.
use Rattle.std.specs.Prelude.{map, option_map}
use Rattle.og_typed.specs.Syntax.{Program}
use Rattle.og_typed.specs.Plain.{noted, sequence}
use Rattle.og_typed.specs.declared.outline.Parts.{Parts}

abbrev pub program_of : Parts → Program
program_of parts = record {
  names = parts.names.items;
  vars = parts.vars;
  aux_values = parts.aux_values.items;
  pre = noted parts.pre;
  prologue = option_map sequence parts.prologue;
  processes = map sequence parts.processes.items;
  epilogue = option_map sequence parts.epilogue;
  post = noted parts.post;
  cobegin_at = parts.cobegin_at;
}
