use Rattle.std.proofs.Common.{◌≡◌, map, drop}
use Rattle.og_template_expand.specs.Outline as meaning
use Rattle.og_template_expand.specs.Scoped.{names_of}
use Rattle.og_template_expand.specs.WholeOf.{variable_of}
use Rattle.og_template_expand.proofs.Declared.{listed_behind}
use Rattle.og_template_expand.proofs.declarations.declare_variables.Given as goal

abbrev pub invariant-loop-variable : goal.invariant-loop-variable
invariant-loop-variable l =
    listed_behind l.all.items (meaning.variables_in (names_of l.names) (map variable_of (drop l.variable-index l.variables)))
    ≡ meaning.variables_in (names_of l.fn.names) (map variable_of l.variables)
