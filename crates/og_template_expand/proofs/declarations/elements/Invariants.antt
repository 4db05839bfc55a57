use Rattle.std.proofs.Common.{◌≡◌, drop}
use Rattle.og_template_expand.specs.Outline as meaning
use Rattle.og_template_expand.specs.Answer.{behind, gathered}
use Rattle.og_template_expand.proofs.declarations.elements.Given as goal

abbrev pub invariant-loop-index : goal.invariant-loop-index
invariant-loop-index l =
    behind l.all.items (gathered (meaning.one_element l.family) (drop l.index-index l.index-items)) ≡ gathered (meaning.one_element l.family) l.index-items
