use Rattle.std.proofs.Common.{◌≡◌, map, take}
use Rattle.og_template_expand.specs.Outline as meaning
use Rattle.og_template_expand.proofs.declarations.with_value.Given as goal

abbrev pub invariant-loop-name : goal.invariant-loop-name
invariant-loop-name l =
    l.all.items ≡ map (meaning.auxiliary l.fn.value) (take l.name-index l.names)
