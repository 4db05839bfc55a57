use Rattle.std.proofs.Common.{◌≡◌, drop, filter, None}
use Rattle.og_lsp_document.specs.Hovers.{has}
use Rattle.og_lsp_names.specs.Names.{last_or}
use Rattle.og_lsp_document.proofs.hovering.statement_round.Given as goal

abbrev pub invariant-loop-statement : goal.invariant-loop-statement
invariant-loop-statement l =
    last_or l.found (filter (λ s. has s.span l.at) (drop l.statement-index l.statements)) ≡ last_or None (filter (λ s. has s.span l.at) l.statements)
