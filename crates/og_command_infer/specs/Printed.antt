-- What is printed of a completed outline, and what goes to standard error beside it.
use Rattle.std.specs.Prelude.{◌≡◌, ℕ, ◌-◌, ◌==◌, ◌↔◌, Bool, true, false, List, [], ◌++◌, length, take, map, if◌then◌else◌, codes}
use Rattle.std.specs.Fmt.{decimal}
use Rattle.serde_json.specs.Data.{Data, string, array, object, member, no_members}
use Rattle.serde_json.specs.View.{items_of}
use Rattle.serde_json.specs.Written.{compact_text}
use Rattle.og_report_text.specs.Numbers.{natural}
use Rattle.og_report_text.specs.Places.{position_of}
use Rattle.og_report_findings.specs.Says.{SaysNeverStuck}
use Rattle.og_report_prove.specs.Members.{utf8_text}
use Rattle.og_report_text.specs.declared.answer.Answer.{Answer}
use Rattle.og_infer_marks.specs.declared.edit.Edit.{Edit}
use Rattle.og_command_infer.specs.declared.inferrer.Added.{Added}
use Rattle.og_command_infer.specs.declared.inferrer.Inferred.{Inferred}

-- ---- as JSON

-- places of the text that is edited
abbrev pub edit_data : List ℕ → Edit → Data
edit_data own edit =
    let start = position_of own edit.at in
    let end = position_of own edit.end in
    object
    (member (codes "column") (natural start.column)
    (member (codes "end_column") (natural end.column)
    (member (codes "end_line") (natural end.line)
    (member (codes "line") (natural start.line)
    (member (codes "text") (string (utf8_text edit.text.items)) no_members)))))

abbrev pub edits_text : List ℕ → List Edit → List ℕ
edits_text own edits = compact_text (array (items_of (map (edit_data own) edits)))

-- the edits, and the report of `prove` without its line end
abbrev pub json_text : List ℕ → Inferred → List ℕ
json_text own i =
    let report = i.report.text.items in
    codes "{\"edits\":" ++ (edits_text own i.edits.items ++ (codes ",\"report\":"
    ++ (take (length report - 1) report ++ codes "}\n")))

-- as JSON that, and else the text of the outline; with the status of the report
abbrev pub printed_text : Bool → List ℕ → Inferred → List ℕ
printed_text true own i = json_text own i
printed_text false own i = i.text.items

abbrev pub IsPrinted : Bool → List ℕ → Inferred → Answer → Type 0
IsPrinted json own i answer =
    (answer.text.items ≡ printed_text json own i) × (answer.status ≡ i.report.status)

-- ---- beside it

abbrev pub yes_or_no : Bool → List ℕ
yes_or_no true = codes "yes"
yes_or_no false = codes "no"

-- so many of what a word says
abbrev pub counted : ℕ → List ℕ → List ℕ
counted n word = decimal n ++ (word ++ (if n == 1 then [] else codes "s"))

abbrev pub auxiliaries_text : ℕ → List ℕ
auxiliaries_text n = if n == 0 then [] else counted n (codes " auxiliary variable") ++ codes " and "

abbrev pub added_text : Added → List ℕ
added_text added =
    codes "added " ++ (auxiliaries_text added.auxiliaries ++ (counted added.conjuncts (codes " conjunct")
    ++ (codes " in " ++ (decimal added.notes ++ (codes " of " ++ counted added.places (codes " note"))))))

abbrev pub verdict_text : Bool → Bool → List ℕ
verdict_text safe unblocked =
    (codes "; safe: " ++ yes_or_no safe) ++ (codes ", unblocked: " ++ yes_or_no unblocked)

-- how much was added and the verdict, which with status 0 is that of the report; and where it is not
-- yes twice and no JSON is printed, the report of `prove`, to some place of it
pub record IsRemark (json : Bool) (i : Inferred) (text : List ℕ) : Type 0 where
  pub unblocked : Bool
  pub count : ℕ
  pub says : i.report.status ≡ 0 → (unblocked ≡ true) ↔ SaysNeverStuck json i.report.text.items
  pub remark : text ≡ (added_text i.added ++ verdict_text (i.report.status == 0) unblocked)
      ++ (codes "\n" ++ take count i.report.text.items)
