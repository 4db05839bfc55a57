-- What is said of a place.
use Rattle.std.specs.Prelude.{ℕ, ◌==◌, nat_le, nat_lt, List, [], ◌∷◌, ◌++◌, Bool, ◌&&◌, Option, Some, None, if◌then◌else◌, filter, length, min, codes}
use Rattle.std.specs.Fmt.{decimal}
use Rattle.std.specs.List.{slice_range}
use Rattle.og_text.specs.declared.place.Span.{Span}
use Rattle.og_report_text.specs.Places.{◌&◌}
use Rattle.og_lsp_names.specs.Names.{last_or}
use Rattle.og_lsp_diagnostics.specs.declared.diagnostic.Diagnostic.{Diagnostic}
use Rattle.og_lsp_document.specs.declared.judged.Judgement.{Judgement}
use Rattle.og_lsp_document.specs.declared.judged.PartCount.{PartCount}
use Rattle.og_lsp_document.specs.declared.judged.StatementCount.{StatementCount}

-- the byte offset is among these bytes
abbrev pub has : Span → ℕ → Bool
has span at = nat_le span.start at && nat_lt at span.end

-- of the parts round a byte offset the one that begins last
abbrev pub part_round : ℕ → List PartCount → Option PartCount
part_round at parts = last_or None (filter (λ p. has p.span at) parts)

abbrev pub conditions_word : ℕ → List ℕ
conditions_word n = if n == 1 then codes " condition is asked here, " else codes " conditions are asked here, "

abbrev pub asked_text : ℕ → List ℕ
asked_text n = decimal n & conditions_word n

abbrev pub unproved_text : ℕ → List ℕ
unproved_text n = if n == 0 then codes "all proved." else decimal n & codes " not proved."

-- how many conditions are asked there
abbrev pub counts_text : PartCount → List ℕ
counts_text part = asked_text part.conditions ++ unproved_text part.unproved

abbrev pub head_text : List ℕ → List ℕ
head_text code = codes "\n\n```\ncondition " & code & codes "\n"

-- a diagnostic as a block of code
abbrev pub block_text : Diagnostic → List ℕ
block_text d = head_text d.code.items ++ (d.message.items & codes "\n```")

-- those that stand at these bytes
abbrev pub blocks_text : Span → List Diagnostic → List ℕ
blocks_text part [] = []
blocks_text part (d ∷ ds) = (if has part d.span.start then block_text d else []) ++ blocks_text part ds

-- what is said of the conditions at a part
abbrev pub part_text : Judgement → PartCount → List ℕ
part_text j part = counts_text part ++ blocks_text part.span j.diagnostics.items

-- ---- statements

-- of the statements round a byte offset the one that begins last
abbrev pub statement_round : ℕ → List StatementCount → Option StatementCount
statement_round at statements = last_or None (filter (λ s. has s.span at) statements)

-- the bytes of a text there, as far as it goes
abbrev pub bytes_in : List ℕ → Span → List ℕ
bytes_in text span = slice_range text (min (min (length text) span.end) span.start) (min (length text) span.end)

abbrev pub behind_text : List ℕ → Option Span → List ℕ
behind_text text None = []
behind_text text (Some span) = codes "\n" & bytes_in text span

-- the statement between its notes, as a block of code
abbrev pub triple_text : List ℕ → StatementCount → List ℕ
triple_text text s = codes "```\n" & bytes_in text s.before & codes "\n" & bytes_in text s.span & behind_text text s.behind & codes "\n```\n\n"

abbrev pub kept_word : ℕ → List ℕ
kept_word n = if n == 1 then codes " condition asks whether the step keeps an assertion of another process, " else codes " conditions ask whether the step keeps assertions of other processes, "

-- how many conditions ask what its step does to other processes
abbrev pub kept_text : StatementCount → List ℕ
kept_text s = if s.conditions == 0 then codes "No condition asks what the step does to other processes." else decimal s.conditions & kept_word s.conditions & unproved_text s.unproved

abbrev pub statement_text : List ℕ → StatementCount → List ℕ
statement_text text s = triple_text text s ++ kept_text s

-- ---- both

abbrev pub whole_text : Judgement → List ℕ → StatementCount → Option PartCount → List ℕ
whole_text j text s None = statement_text text s
whole_text j text s (Some part) = statement_text text s ++ (codes "\n\n" & part_text j part)

abbrev pub said_of : Judgement → List ℕ → Option StatementCount → Option PartCount → Option (List ℕ × Span)
said_of j text (Some s) part = Some (whole_text j text s part, s.span)
said_of j text None (Some part) = Some (part_text j part, part.span)
said_of j text None None = None

-- what is said of a byte offset of the text that was judged
abbrev pub said_at : Judgement → List ℕ → ℕ → Option (List ℕ × Span)
said_at j text at = said_of j text (statement_round at j.statements.items) (part_round at j.parts.items)
