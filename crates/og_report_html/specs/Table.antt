-- Whose steps make whose assertions false.
use Rattle.std.specs.Prelude.{ℕ, zero, suc, ◌+◌, nat_le, ◌==◌, List, [], ◌∷◌, ◌++◌, length, Bool, true, false, ◌&&◌, not, if◌then◌else◌, Option, Some, None, codes}
use Rattle.std.specs.List.{filter}
use Rattle.std.specs.Fmt.{decimal}
use Rattle.og_report_text.specs.Places.{◌&◌}
use Rattle.og_report_prove.specs.declared.diagnosis.Diagnosis.{Diagnosis}
use Rattle.og_report_html.specs.Findings.{is_found, word, sign}
use Rattle.og_report_html.specs.declared.constants.TheConstants.{BEFORE_TABLE, AFTER_TABLE, MOST_PROCESSES}
use Rattle.og_report_html.specs.declared.finding.Finding.{Finding}
use Rattle.og_report_html.specs.declared.finding.Finding.TheVariants as finding
use Rattle.og_report_html.specs.declared.table.Disturbance.{Disturbance}
use Rattle.og_report_html.specs.declared.table.Role.{Role}
use Rattle.og_report_html.specs.declared.table.Role.TheVariants as roles
use Rattle.og_report_html.specs.declared.target.Interference.{Interference}
use Rattle.og_report_html.specs.declared.target.Target.{Target}

-- ---- which conditions of interference are not proved

-- where this is the finding on the condition with a number
abbrev pub disturbance_of : Bool → ℕ → Option Interference → List Disturbance
disturbance_of false n i = []
disturbance_of true n None = []
disturbance_of true n (Some i) = record { number = n; interference = i } ∷ []

-- those on which this is the finding, numbered on
abbrev pub disturbances_from : Finding → ℕ → List Diagnosis → List Target → List Disturbance
disturbances_from f n [] gs = []
disturbances_from f n (t ∷ ts) [] = []
disturbances_from f n (t ∷ ts) (g ∷ gs) = disturbance_of (is_found f t) n g.interference ++ disturbances_from f (n + 1) ts gs

-- with a step of this process, or an assertion of it
abbrev pub is_by : ℕ → Disturbance → Bool
is_by p c = p == c.interference.actor

abbrev pub is_on : ℕ → Disturbance → Bool
is_on p c = p == c.interference.other

-- with this of this process
abbrev pub has_role : Role → ℕ → Disturbance → Bool
has_role roles.Actor p = is_by p
has_role roles.Other p = is_on p

-- ---- the text written of them

-- this many, with a link to the block of the first
abbrev pub count_text : Finding → ℕ → ℕ → List ℕ
count_text f first count = codes "<a class=" & word f & codes " href=#c" & decimal first & codes ">" & sign f & codes " " & decimal count & codes "</a> "

abbrev pub share_text : Finding → List Disturbance → List ℕ
share_text f [] = []
share_text f (c ∷ cs) = count_text f c.number (length (c ∷ cs))

-- of steps of one process, those on assertions of another
abbrev pub cell_text : List Disturbance → List Disturbance → ℕ → List ℕ
cell_text wrong unknown p = codes "<td>" & share_text finding.False (filter (is_on p) wrong) & share_text finding.Open (filter (is_on p) unknown)

-- the text written of each of this many processes, from one on
abbrev pub each_text : (ℕ → List ℕ) → ℕ → ℕ → List ℕ
each_text of p zero = []
each_text of p (suc k) = of p & each_text of (p + 1) k

abbrev pub cells_text : List Disturbance → List Disturbance → ℕ → List ℕ
cells_text wrong unknown count = each_text (cell_text wrong unknown) 0 count

-- the row of a process
abbrev pub row_text : ℕ → List Disturbance → List Disturbance → ℕ → List ℕ
row_text count wrong unknown p =
    codes "<tr><th scope=row>" & decimal (p + 1) & codes "</th>" & cells_text (filter (is_by p) wrong) (filter (is_by p) unknown) count & codes "</tr>\n"

abbrev pub rows_text : ℕ → List Disturbance → List Disturbance → List ℕ
rows_text count wrong unknown = each_text (row_text count wrong unknown) 0 count

-- the numbers of all processes
abbrev pub column_head : ℕ → List ℕ
column_head p = codes "<th scope=col>" & decimal (p + 1)

abbrev pub column_heads : ℕ → List ℕ
column_heads count = each_text column_head 0 count

abbrev pub head_rows : ℕ → List ℕ
head_rows count = codes "<tr><th rowspan=2>steps of<th colspan=" & decimal count & codes ">assertions of process</tr>\n<tr>" & column_heads count & codes "</tr>\n"

abbrev pub whole_table : ℕ → List Disturbance → List Disturbance → List ℕ
whole_table count wrong unknown = BEFORE_TABLE.now & head_rows count & rows_text count wrong unknown & AFTER_TABLE.now

-- ---- where there is a table

abbrev pub is_none : List Disturbance → Bool
is_none [] = true
is_none (c ∷ cs) = false

-- where some interference is not proved, of few processes
abbrev pub is_shown : ℕ → List Disturbance → List Disturbance → Bool
is_shown count wrong unknown = nat_le count MOST_PROCESSES && not (is_none wrong && is_none unknown)

abbrev pub table_of : ℕ → List Disturbance → List Disturbance → List ℕ
table_of count wrong unknown = if is_shown count wrong unknown then whole_table count wrong unknown else []

abbrev pub table_text : ℕ → List Diagnosis → List Target → List ℕ
table_text count ts gs = table_of count (disturbances_from finding.False 1 ts gs) (disturbances_from finding.Open 1 ts gs)
