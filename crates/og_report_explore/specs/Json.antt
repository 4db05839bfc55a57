-- The report of an exploration, as JSON: the members of each object stand in the order of their bytes.
use Rattle.std.specs.Prelude.{ℕ, ℤ, true, List, length, map, codes, Option, Some, None}
use Rattle.serde_json.specs.Data.{Data, Members, string, boolean, array, object, member, no_members}
use Rattle.serde_json.specs.View.{items_of}
use Rattle.serde_json.specs.Written.{compact_text}
use Rattle.og_report_text.specs.Numbers.{natural}
use Rattle.og_text.specs.Place.{line_at, column_at}
use Rattle.og_typed.specs.Plain.{formula}
use Rattle.og_typed.specs.declared.assertion.Assert.{Assert}
use Rattle.og_report_prove.specs.Ends.{end_of}
use Rattle.og_report_prove.specs.Members.{if_some, with_values}
use Rattle.og_report_prove.specs.Json.{conjunct_data}
use Rattle.og_report_explore.specs.declared.finding.Fault.{Fault}
use Rattle.og_report_explore.specs.declared.finding.Fault.TheVariants as fault
use Rattle.og_report_explore.specs.declared.finding.Row.{Row}
use Rattle.og_report_explore.specs.declared.finding.Finding.{Finding}
use Rattle.og_report_explore.specs.declared.totals.Totals.{Totals}
use Rattle.og_report_text.specs.Processes.{printed_number}
use Rattle.og_report_text.specs.Values.{numbers}
use Rattle.og_report_explore.specs.Texts.{place_of}
use Rattle.og_report_explore.specs.Totals.{found_word, safe_of, unblocked_of}
use denote.Ref.{Bor}

abbrev pub kind_word : Fault → List ℕ
kind_word (fault.Assertion p note all) = codes "assertion"
kind_word (fault.Overflow p item x v) = codes "overflow"
kind_word (fault.Post note all) = codes "postcondition"
kind_word (fault.Stuck stands) = codes "stuck"

-- the process reported, the main one as 0
abbrev pub process_member : ℕ → Fault → Option Data
process_member main (fault.Assertion p note all) = Some (natural (printed_number main p))
process_member main (fault.Overflow p item x v) = Some (natural (printed_number main p))
process_member main (fault.Post note all) = None
process_member main (fault.Stuck stands) = None

-- the processes that stepped
abbrev pub history_items : ℕ → List Row → List Data
history_items main rows = map (λ row. natural (printed_number main row.process)) rows

module _ (names : List (List ℕ)) where
  abbrev pub state_data : List ℤ → Data
  state_data s = object (with_values names true s (numbers (length names)) no_members)

  abbrev pub conjuncts_data : List (Bor Assert) → Data
  conjuncts_data all = array (items_of (map (λ a. conjunct_data names (formula a.now)) all))

  -- the false conjuncts
  abbrev pub false_member : Fault → Option Data
  false_member (fault.Assertion p note all) = Some (conjuncts_data all.items)
  false_member (fault.Overflow p item x v) = None
  false_member (fault.Post note all) = Some (conjuncts_data all.items)
  false_member (fault.Stuck stands) = None

  module _ (source : List ℕ) (main cobegin_at : ℕ) where
    -- the place, the process, and the states
    abbrev pub last_members : Finding → Members
    last_members f = member (codes "line") (natural (line_at source (place_of cobegin_at f.fault)))
        (if_some (codes "process") (process_member main f.fault)
        (member (codes "start") (state_data f.start) (member (codes "state") (state_data f.state) no_members)))

    abbrev pub finding_data : Finding → Data
    finding_data f = object
        (member (codes "column") (natural (column_at source (place_of cobegin_at f.fault)))
        (member (codes "end_column") (natural (column_at source (end_of source (place_of cobegin_at f.fault))))
        (member (codes "end_line") (natural (line_at source (end_of source (place_of cobegin_at f.fault))))
        (if_some (codes "false") (false_member f.fault)
        (member (codes "history") (array (items_of (history_items main f.rows.items)))
        (member (codes "kind") (string (kind_word f.fault)) (last_members f)))))))

    abbrev pub report_data : Totals → List Finding → Data
    report_data t fs = object
        (member (codes "complete") (boolean t.complete)
        (member (codes "ended") (natural t.ended)
        (member (codes "moments") (natural t.moments)
        (member (codes "safe") (string (found_word (safe_of t.complete fs)))
        (member (codes "starts") (natural t.starts)
        (member (codes "unblocked") (string (found_word (unblocked_of t.complete fs)))
        (member (codes "violations") (array (items_of (map finding_data fs))) no_members)))))))

    abbrev pub json_text : Totals → List Finding → List ℕ
    json_text t fs = compact_text (report_data t fs)
