-- The report of a judgement, as text.
use Rattle.std.specs.Prelude.{ℕ, suc, Bool, true, false, if◌then◌else◌, List, [], ◌∷◌, length, count_by, codes}
use Rattle.std.specs.Fmt.{decimal}
use Rattle.og_cond.specs.Names as cond
use Rattle.og_cert.specs.Names as cert
use Rattle.og_pool.specs.declared.status.Status.{Status}
use Rattle.og_pool.specs.declared.status.Status.TheVariants as status
use Rattle.og_report_text.specs.Places.{◌&◌, position_of, position_text, with_text}
use Rattle.og_judge.specs.declared.entry.Entry.{Entry}
use Rattle.og_judge.specs.Entries.{is_proved, is_safe, is_unblocked}

abbrev pub status_text : Status → List ℕ
status_text status.Missing = codes "missing"
status_text status.TooLarge = codes "too large"
status_text status.Proved = codes "proved"
status_text (status.Failed fault) = codes "failed " & cert.name_of_kind fault.kind & codes " at step " & decimal fault.step

-- KIND with PLACE: STATUS
abbrev pub rest_text : List ℕ → Entry → List ℕ
rest_text source e = cond.name_of_kind e.kind & with_text source e.action_at & codes ": " & status_text e.status & codes "\n"

-- : condition NUMBER, and the rest
abbrev pub numbered_text : List ℕ → ℕ → Entry → List ℕ
numbered_text source n e = codes ": condition " & decimal n & codes " " & rest_text source e

-- the place in front
abbrev pub line_text : List ℕ → ℕ → Entry → List ℕ
line_text source n e = position_text (position_of source e.at) & numbered_text source n e

-- the lines of the entries that are not proved, numbered on
abbrev pub unproved_lines : List ℕ → ℕ → List Entry → List ℕ
unproved_lines source n [] = []
unproved_lines source n (e ∷ es) = (if is_proved e then [] else line_text source n e) & unproved_lines source (suc n) es

abbrev pub count_text : List ℕ → ℕ → List ℕ
count_text name n = name & decimal n & codes "\n"

abbrev pub yes_no : Bool → List ℕ
yes_no true = codes "yes\n"
yes_no false = codes "no\n"

abbrev pub answer_text : List ℕ → Bool → List ℕ
answer_text name answer = name & yes_no answer

abbrev pub totals_text : List Entry → List ℕ
totals_text es = count_text (codes "conditions: ") (length es) & count_text (codes "proved: ") (count_by is_proved es)
    & answer_text (codes "safe: ") (is_safe es) & answer_text (codes "unblocked: ") (is_unblocked es)

abbrev pub report_text : List ℕ → List Entry → List ℕ
report_text source es = unproved_lines source 1 es & totals_text es
