use Rattle.std.proofs.Common.{◌≡◌, map, drop}
use Rattle.og_template_expand.specs.Outline as meaning
use Rattle.og_template_expand.specs.Scoped.{names_of}
use Rattle.og_template_expand.specs.TreeOf.{definition_of}
use Rattle.og_template_expand.proofs.declarations.declare_named.Given as goal

abbrev pub invariant-loop-named : goal.invariant-loop-named
invariant-loop-named l =
    meaning.named_in (names_of l.names) (map definition_of (drop l.named-index l.all)) ≡ meaning.named_in (names_of l.fn.names) (map definition_of l.all)
