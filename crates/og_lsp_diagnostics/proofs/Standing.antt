-- Bytes of a part.
use Rattle.std.proofs.Common.{ℕ, List, arith}
use Rattle.og_text.specs.declared.place.Span.{Span}
use Rattle.og_lsp_diagnostics.specs.Extents.{LiesIn}
use Rattle.og_lsp_diagnostics.specs.Said.{StandsIn}

pub stands_lies : (text : List ℕ) (part span : Span) → StandsIn part span → LiesIn text part → LiesIn text span
stands_lies text part span stands lies =
    let end = stands.end in
    let within = lies.1 in
    (stands.order, omega (arith, end, within))
