-- Places and edits of a text, as JSON.
use Rattle.std.specs.Prelude.{ℕ, List, length, map, min, codes}
use Rattle.serde_json.specs.Data.{Data, string, array, object, member, put, no_members}
use Rattle.serde_json.specs.View.{items_of}
use Rattle.og_text.specs.declared.place.Span.{Span}
use Rattle.og_lsp_text.specs.Positions.{range_of}
use Rattle.og_lsp_text.specs.declared.encoding.Encoding.{Encoding}
use Rattle.og_lsp_text.specs.declared.position.Position.{Position}
use Rattle.og_lsp_text.specs.declared.position.Range.{Range}
use Rattle.og_report_text.specs.Numbers.{natural}

-- the members stand in the order of their names
abbrev pub position_data : Position → Data
position_data p = object (member (codes "character") (natural p.character) (member (codes "line") (natural p.line) no_members))

abbrev pub range_data : Range → Data
range_data r = object (member (codes "end") (position_data r.end) (member (codes "start") (position_data r.start) no_members))

-- some bytes, as far as the text goes
abbrev pub within : List ℕ → Span → Span
within text span = record { start = min span.start (length text); end = min span.end (length text) }

-- their range
abbrev pub span_data : Encoding → List ℕ → Span → Data
span_data encoding text span = range_data (range_of encoding text (within text span))

-- they become this text
abbrev pub edit_data : Encoding → List ℕ → List ℕ → Span → Data
edit_data encoding text new span = object (member (codes "newText") (string new) (member (codes "range") (span_data encoding text span) no_members))

-- all of them do
abbrev pub edits_data : Encoding → List ℕ → List ℕ → List Span → Data
edits_data encoding text new spans = array (items_of (map (edit_data encoding text new) spans))

-- edits of the document of this name
abbrev pub changes_data : List ℕ → Data → Data
changes_data uri edits = object (member (codes "changes") (object (put uri edits no_members)) no_members)
