use Rattle.std.proofs.Common.{◌≡◌, map, drop}
use Rattle.og_template_expand.specs.Outline as meaning
use Rattle.og_template_expand.specs.Scoped.{names_of}
use Rattle.og_template_expand.specs.WholeOf.{auxiliary_of}
use Rattle.og_template_expand.proofs.Declared.{listed_behind}
use Rattle.og_template_expand.proofs.declarations.declare_auxiliaries.Given as goal

abbrev pub invariant-loop-auxiliary : goal.invariant-loop-auxiliary
invariant-loop-auxiliary l =
    listed_behind l.all.items (meaning.auxiliaries_in (names_of l.names) (map auxiliary_of (drop l.auxiliary-index l.auxiliaries)))
    ≡ meaning.auxiliaries_in (names_of l.fn.names) (map auxiliary_of l.auxiliaries)
