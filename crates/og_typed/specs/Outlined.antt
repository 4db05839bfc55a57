-- The program that an outline's fields hold.
use Rattle.std.specs.Prelude.{map, option_map}
use Rattle.og_typed.specs.Syntax.{Program}
use Rattle.og_typed.specs.Plain.{noted, sequence}
use Rattle.og_typed.specs.declared.outline.Outline.TheInside.{Inside}

abbrev pub program : Inside → Program
program o = record {
  names = o.names.items;
  vars = o.vars;
  aux_values = o.aux_values.items;
  pre = noted o.pre;
  prologue = option_map sequence o.prologue;
  processes = map sequence o.processes.items;
  epilogue = option_map sequence o.epilogue;
  post = noted o.post;
  cobegin_at = o.cobegin_at;
}
