-- The report of a judgement, as JSON: its members stand in the order of their bytes.
use Rattle.std.specs.Prelude.{ℕ, suc, if◌then◌else◌, List, [], ◌∷◌, ◌++◌, length, count_by, codes, Option, Some, None}
use Rattle.serde_json.specs.Data.{Data, Members, string, boolean, array, object, member, no_members}
use Rattle.serde_json.specs.View.{items_of}
use Rattle.serde_json.specs.Written.{compact_text}
use Rattle.og_report_text.specs.Numbers.{natural}
use Rattle.og_cond.specs.Names as cond
use Rattle.og_cert.specs.Names as cert
use Rattle.og_text.specs.Place.{line_at, column_at}
use Rattle.og_pool.specs.declared.status.Status.{Status}
use Rattle.og_pool.specs.declared.status.Status.TheVariants as status
use Rattle.og_judge.specs.declared.entry.Entry.{Entry}
use Rattle.og_judge.specs.Entries.{is_proved, is_safe, is_unblocked}

abbrev pub status_word : Status → List ℕ
status_word status.Missing = codes "missing"
status_word status.TooLarge = codes "too large"
status_word status.Proved = codes "proved"
status_word (status.Failed fault) = codes "failed"

-- the kind, the line and the status
abbrev pub middle : List ℕ → Entry → Members → Members
middle source e rest = member (codes "kind") (string (cond.name_of_kind e.kind))
    (member (codes "line") (natural (line_at source e.at))
    (member (codes "status") (string (status_word e.status)) rest))

-- a failed one has its fault and the step too
abbrev pub by_status : List ℕ → Entry → Status → Members
by_status source e (status.Failed fault) = member (codes "fault") (string (cert.name_of_kind fault.kind))
    (middle source e (member (codes "step") (natural fault.step) no_members))
by_status source e s = middle source e no_members

abbrev pub by_action : List ℕ → Option ℕ → Members → Members
by_action source None rest = rest
by_action source (Some at) rest = member (codes "action_column") (natural (column_at source at))
    (member (codes "action_line") (natural (line_at source at)) rest)

abbrev pub entry_data : List ℕ → ℕ → Entry → Data
entry_data source n e = object (by_action source e.action_at
    (member (codes "column") (natural (column_at source e.at))
    (member (codes "condition") (natural n) (by_status source e e.status))))

-- the entries that are not proved, numbered on
abbrev pub unproved_data : List ℕ → ℕ → List Entry → List Data
unproved_data source n [] = []
unproved_data source n (e ∷ es) = (if is_proved e then [] else entry_data source n e ∷ []) ++ unproved_data source (suc n) es

abbrev pub report_data : List ℕ → List Entry → Data
report_data source es = object
    (member (codes "conditions") (natural (length es))
    (member (codes "proved") (natural (count_by is_proved es))
    (member (codes "safe") (boolean (is_safe es))
    (member (codes "unblocked") (boolean (is_unblocked es))
    (member (codes "unproved") (array (items_of (unproved_data source 1 es))) no_members)))))

abbrev pub json_text : List ℕ → List Entry → List ℕ
json_text source es = compact_text (report_data source es)
