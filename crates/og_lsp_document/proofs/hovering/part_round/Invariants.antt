use Rattle.std.proofs.Common.{◌≡◌, drop, filter, None}
use Rattle.og_lsp_document.specs.Hovers.{has}
use Rattle.og_lsp_names.specs.Names.{last_or}
use Rattle.og_lsp_document.proofs.hovering.part_round.Given as goal

abbrev pub invariant-loop-part : goal.invariant-loop-part
invariant-loop-part l =
    last_or l.found (filter (λ p. has p.span l.at) (drop l.part-index l.parts)) ≡ last_or None (filter (λ p. has p.span l.at) l.parts)
