-- The tree of a whole template that lies in memory.
use Rattle.std.specs.Prelude.{map, option_map}
use Rattle.og_template.specs.declared.tree.Constant as declared_constant
use Rattle.og_template.specs.declared.tree.Variable as declared_variable
use Rattle.og_template.specs.declared.tree.Auxiliary as declared_auxiliary
use Rattle.og_template.specs.declared.tree.Process as declared_process
use Rattle.og_template.specs.declared.tree.Template as declared_template
use Rattle.og_template_expand.specs.Trees.{Constant, Variable, Auxiliary, Process, Template}
use Rattle.og_template_expand.specs.TreeOf.{expression_of, bounds_of, binder_of, definition_of, note_of, sequence_of}

abbrev pub constant_of : declared_constant.Constant → Constant
constant_of c = record { name = c.name; value = expression_of c.value }

abbrev pub variable_of : declared_variable.Variable → Variable
variable_of v = record { name = v.name; family = option_map bounds_of v.family }

abbrev pub auxiliary_of : declared_auxiliary.Auxiliary → Auxiliary
auxiliary_of a = record
    { name = a.name; family = option_map bounds_of a.family; value = expression_of a.value }

abbrev pub process_of : declared_process.Process → Process
process_of p = record { binder = option_map binder_of p.binder; body = sequence_of p.body }

abbrev pub template_of : declared_template.Template → Template
template_of t = record {
  constants = map constant_of t.constants.items;
  variables = map variable_of t.variables.items;
  auxiliaries = map auxiliary_of t.auxiliaries.items;
  named = map definition_of t.named.items;
  pre = note_of t.pre;
  prologue = option_map sequence_of t.prologue;
  cobegin = t.cobegin;
  processes = map process_of t.processes.items;
  epilogue = option_map sequence_of t.epilogue;
  post = note_of t.post;
}
