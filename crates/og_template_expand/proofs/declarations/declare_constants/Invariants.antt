use Rattle.std.proofs.Common.{◌≡◌, map, drop}
use Rattle.og_template_expand.specs.Outline as meaning
use Rattle.og_template_expand.specs.Scoped.{binding_of, names_of}
use Rattle.og_template_expand.specs.WholeOf.{constant_of}
use Rattle.og_template_expand.proofs.declarations.declare_constants.Given as goal

abbrev pub invariant-loop-declared : goal.invariant-loop-declared
invariant-loop-declared l =
    meaning.constants_in (map binding_of l.values) (names_of l.names) (map constant_of (drop l.declared-index l.constants))
    ≡ meaning.constants_in (map binding_of l.values) (names_of l.fn.names) (map constant_of l.constants)
