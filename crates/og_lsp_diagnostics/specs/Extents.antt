-- Which bytes of a text are shown for a place.
use Rattle.std.specs.Prelude.{ℕ, ◌+◌, ◌≤◌, List, length, drop, min, max, All}
use Rattle.std.specs.List.{prefix_len}
use Rattle.og_text.specs.Lexemes.{is_word_byte}
use Rattle.og_text.specs.declared.place.Span.{Span}
use Rattle.og_report_text.specs.Origins.{Rows, row_at, from_of}
use Rattle.og_report_prove.specs.Ends.{end_of}
use Rattle.og_lsp_diagnostics.specs.declared.diagnostic.Diagnostic.{Diagnostic}
use Rattle.og_lsp_diagnostics.specs.declared.diagnostic.Related.{Related}

-- they end within the text, and not before they begin
abbrev pub LiesIn : List ℕ → Span → Type 0
LiesIn text span = (span.start ≤ span.end) × (span.end ≤ length text)

-- ---- the word at a place

-- the letters, digits and underscores at the front, or the one byte there
abbrev pub word_len : List ℕ → ℕ
word_len bytes = max 1 (prefix_len is_word_byte bytes)

abbrev pub word_from : List ℕ → ℕ → Span
word_from text start = record { start = start; end = min (length text) (start + word_len (drop start text)) }

abbrev pub word_span : List ℕ → ℕ → Span
word_span text at = word_from text (min (length text) at)

-- ---- the part that begins at a place

abbrev pub part_from : List ℕ → ℕ → Span
part_from text start = record { start = start; end = end_of text start }

abbrev pub part_span : List ℕ → ℕ → Span
part_span text at = part_from text (min (length text) at)

-- where in the given text a part of the outline stands
abbrev pub place_in : Rows → ℕ → ℕ
place_in rows at = from_of (row_at rows at) at

-- ---- diagnostics

abbrev pub AreRelatedIn : List ℕ → List Related → Type 0
AreRelatedIn text = All (λ r. LiesIn text r.span)

-- all places that it speaks of
pub record IsSaidIn (text : List ℕ) (d : Diagnostic) : Type 0 where
  pub span : LiesIn text d.span
  pub related : AreRelatedIn text d.related.items

abbrev pub AreSaidIn : List ℕ → List Diagnostic → Type 0
AreSaidIn text = All (IsSaidIn text)
