use Rattle.std.proofs.Common.{◌≡◌, map, drop}
use Rattle.og_template_expand.specs.Outline as meaning
use Rattle.og_template_expand.specs.Scoped.{binding_of}
use Rattle.og_template_expand.proofs.declarations.given.Given as goal

abbrev pub invariant-loop-binding : goal.invariant-loop-binding
invariant-loop-binding l =
    meaning.given_to l.name (map binding_of (drop l.binding-index l.values)) ≡ meaning.given_to l.name (map binding_of l.values)
