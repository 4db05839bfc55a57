-- The source with its marks.
use Rattle.std.specs.Prelude.{ℕ, ◌+◌, ◌==◌, List, [], ◌∷◌, Bool, true, false, not, ◌&&◌, if◌then◌else◌, Option, Some, None, is_some, codes}
use Rattle.std.specs.Fmt.{decimal}
use Rattle.og_report_text.specs.Places.{◌&◌}
use Rattle.og_report_html.specs.Escapes.{escaped}
use Rattle.og_report_html.specs.declared.constants.TheConstants.{SHARED_WORD}
use Rattle.og_report_html.specs.declared.edge.Boundary.{Boundary}
use Rattle.og_report_html.specs.declared.edge.Edge.{Edge}
use Rattle.og_report_html.specs.declared.edge.Edge.TheVariants as edge
use Rattle.og_report_html.specs.declared.marks.Mark.{Mark}
use Rattle.og_report_html.specs.declared.marks.Mark.TheVariants as mark
use Rattle.og_report_html.specs.declared.mode.Mode.{Mode}
use Rattle.og_report_html.specs.declared.mode.Spot.{Spot}
use Rattle.og_report_html.specs.declared.mode.Mode.TheVariants as mode

-- ---- what a byte stands in

-- behind `{` an assertion, behind `#` a comment up to the end of the line, from a mark on a statement
abbrev pub mode_from : Bool → ℕ → Mode → Mode
mode_from marked b other =
    if b == 123 then mode.Assertion else (if b == 35 then mode.Comment else (if b == 10 then mode.Text else (if marked then mode.Statement else other)))

-- an assertion goes up to `}`, over comments within it; a statement up to the end of its line, a comment or an assertion
abbrev pub next : Mode → Bool → ℕ → Mode
next mode.Text marked b = mode_from marked b mode.Text
next mode.Statement marked b = mode_from marked b mode.Statement
next mode.Comment marked b = if b == 10 then mode.Text else mode.Comment
next mode.Assertion marked b = if b == 125 then mode.Text else (if b == 35 then mode.Remark else mode.Assertion)
next mode.Remark marked b = if b == 10 then mode.Assertion else mode.Remark

abbrev pub is_assertion : Mode → Bool
is_assertion mode.Text = false
is_assertion mode.Statement = false
is_assertion mode.Comment = false
is_assertion mode.Assertion = true
is_assertion mode.Remark = true

abbrev pub is_comment : Mode → Bool
is_comment mode.Text = false
is_comment mode.Statement = false
is_comment mode.Comment = true
is_comment mode.Assertion = false
is_comment mode.Remark = true

abbrev pub is_statement : Mode → Bool
is_statement mode.Text = false
is_statement mode.Statement = true
is_statement mode.Comment = false
is_statement mode.Assertion = false
is_statement mode.Remark = false

-- the second is so, and the first is not
abbrev pub begins : (Mode → Bool) → Mode → Mode → Bool
begins is old new = is new && not (is old)

-- ---- the text written for it

-- a link to the block of a condition
abbrev pub link_start : List ℕ → ℕ → List ℕ
link_start class n = codes "<a class=" & class & codes " href=#c" & decimal n & codes ">"

-- green with a check mark, red with a cross, amber with a question mark
abbrev pub assertion_start : Option Mark → List ℕ
assertion_start None = codes "<a class=ok><b>&#10003;</b>"
assertion_start (Some (mark.False n)) = link_start (codes "false") n & codes "<b>&#10007;</b>"
assertion_start (Some (mark.Open n)) = link_start (codes "open") n & codes "<b>?</b>"

abbrev pub statement_start : Option Mark → List ℕ
statement_start None = codes "<a>"
statement_start (Some (mark.False n)) = link_start (codes "wrong") n
statement_start (Some (mark.Open n)) = link_start (codes "maybe") n

-- what ends before a byte
abbrev pub ending : Mode → Mode → List ℕ
ending old new = if begins is_comment new old then codes "</i>" else (if begins is_statement new old then codes "</a>" else [])

-- what begins there
abbrev pub starting : Mode → Mode → Option Mark → List ℕ
starting old new m =
    if begins is_comment old new then codes "<i>"
    else (if begins is_statement old new then statement_start m
    else (if begins is_assertion old new then assertion_start m
    else []))

-- and what ends behind it
abbrev pub closing : Mode → Mode → List ℕ
closing old new = if begins is_assertion new old then codes "</a>" else []

-- the number of a line, by which links lead to it
abbrev pub line_number : ℕ → List ℕ
line_number n = codes "<span class=n id=L" & decimal n & codes ">" & decimal n & codes "</span>"

-- before its first byte
abbrev pub line_start : Bool → ℕ → List ℕ
line_start first line = if first then line_number line else []

-- what all assertions share is folded behind a word; what is false stands out
abbrev pub edge_text : Edge → List ℕ
edge_text edge.Shared = codes "<label for=shared>" & SHARED_WORD.now & codes "</label><u>"
edge_text edge.SharedEnd = codes "</u>"
edge_text edge.False = codes "<em>"
edge_text edge.FalseEnd = codes "</em>"

-- of the first one, where it stands at this byte offset
abbrev pub edge_here : ℕ → List Boundary → List ℕ
edge_here at [] = []
edge_here at (e ∷ es) = if e.at == at then edge_text e.edge else []

-- those behind it
abbrev pub later : ℕ → List Boundary → List Boundary
later at [] = []
later at (e ∷ es) = if e.at == at then es else e ∷ es

-- a byte, with what ends and begins at it
abbrev pub byte_text : Bool → Option Mark → Mode → Mode → ℕ → List ℕ
byte_text utf8 m old new b = ending old new & starting old new m & escaped utf8 b & closing old new

-- in this line, perhaps the first one there
abbrev pub place_text : Bool → Option Mark → List ℕ → Spot → Mode → ℕ → List ℕ
place_text utf8 m edge spot new b = line_start spot.first spot.line & edge & byte_text utf8 m spot.mode new b

abbrev pub line_after : ℕ → ℕ → ℕ
line_after line b = if b == 10 then line + 1 else line

-- behind a byte
abbrev pub next_spot : Spot → Bool → ℕ → Spot
next_spot spot marked b = record { line = line_after spot.line b; first = b == 10; mode = next spot.mode marked b }

-- before the first one
abbrev pub first_spot : Spot
first_spot = record { line = 1; first = true; mode = mode.Text }

module _ (utf8 : Bool) (marks : ℕ → Option Mark) where
  -- from a byte offset on
  abbrev pub source_from : ℕ → Spot → List Boundary → List ℕ → List ℕ
  source_from at spot es [] = ending spot.mode mode.Text & closing spot.mode mode.Text
  source_from at spot es (b ∷ bs) =
      place_text utf8 (marks at) (edge_here at es) spot (next spot.mode (is_some (marks at)) b) b
      & source_from (at + 1) (next_spot spot (is_some (marks at)) b) (later at es) bs

  abbrev pub source_text : List Boundary → List ℕ → List ℕ
  source_text es source = source_from 0 first_spot es source
