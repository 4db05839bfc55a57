-- Where the parts of an outline come from, and how their places are printed.
use Rattle.std.specs.Prelude.{ℕ, List, [], Option, Some, None, codes}
use Rattle.std.specs.Ordering.{nat_cmp}
use Rattle.std.specs.BTreeMap.{BTreeMap, get_by}
use Rattle.og_report_text.specs.Places.{◌&◌, position_of, position_text}
use Rattle.og_report_text.specs.Quotes.{quote_text}
use Rattle.og_report_text.specs.declared.row.Row.{Row}
use denote.Ref.{Bor}

-- the rows of an outline that a template means, by byte offsets in the outline's text; an outline that stands in its own text has none
abbrev pub Rows : Type 0
Rows = Option (Bor (BTreeMap ℕ Row))

-- the row of a part, where it has one
abbrev pub row_at : Rows → ℕ → Option Row
row_at None at = None
row_at (Some rows) at = get_by (nat_cmp at) rows.now

-- the byte offset in the text from which it comes; a part without a row stands there itself
abbrev pub from_of : Option Row → ℕ → ℕ
from_of None at = at
from_of (Some row) at = row.from

-- LINE:COLUMN, and behind it the values of an instance
abbrev pub place_text_of : List ℕ → Option Row → ℕ → List ℕ
place_text_of source None at = position_text (position_of source at)
place_text_of source (Some row) at = position_text (position_of source row.from) & row.instance.items

abbrev pub place_text_at : List ℕ → Rows → ℕ → List ℕ
place_text_at source rows at = place_text_of source (row_at rows at) at

-- the place of an action, where there is one
abbrev pub with_place_text : List ℕ → Rows → Option ℕ → List ℕ
with_place_text source rows None = []
with_place_text source rows (Some at) = codes " with " & place_text_at source rows at

-- the text from there to the end of the line
abbrev pub quoted_at : ℕ → List ℕ → Rows → ℕ → List ℕ
quoted_at limit source rows at = quote_text limit source (from_of (row_at rows at) at)
