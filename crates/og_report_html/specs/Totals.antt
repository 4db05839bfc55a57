-- The totals.
use Rattle.std.specs.Prelude.{ℕ, List, length, count_by, Bool, true, false, codes}
use Rattle.std.specs.Fmt.{decimal}
use Rattle.og_report_text.specs.Places.{◌&◌}
use Rattle.og_report_prove.specs.Report.{is_proved, is_false, is_open, is_safe, is_unblocked}
use Rattle.og_report_prove.specs.declared.diagnosis.Diagnosis.{Diagnosis}

abbrev pub number_item : List ℕ → ℕ → List ℕ
number_item word n = codes "<li>" & word & codes " <b>" & decimal n & codes "</b></li>\n"

abbrev pub yes_item : Bool → List ℕ
yes_item true = codes " <b class=yes>yes</b></li>\n"
yes_item false = codes " <b class=no>no</b></li>\n"

abbrev pub answer_item : List ℕ → Bool → List ℕ
answer_item word is = codes "<li>" & word & yes_item is

abbrev pub totals_items : List Diagnosis → List ℕ
totals_items ts =
    number_item (codes "conditions") (length ts) & number_item (codes "proved") (count_by is_proved ts)
    & number_item (codes "false") (count_by is_false ts) & number_item (codes "open") (count_by is_open ts)
    & answer_item (codes "safe") (is_safe ts) & answer_item (codes "unblocked") (is_unblocked ts)
