-- The report of all conditions of an outline, as JSON: the members of each object stand in the order of their bytes.
use Rattle.std.specs.Prelude.{ℕ, List, map, Option, Some, None, codes}
use Rattle.serde_json.specs.Data.{Data, string, array}
use Rattle.serde_json.specs.View.{items_of}
use Rattle.serde_json.specs.Written.{compact_text}
use Rattle.og_typed.specs.Syntax.{Program}
use Rattle.og_cond.specs.Condition.{Condition}
use Rattle.og_report_prove.specs.Json.{diagnosis_data, totals_data}
use Rattle.og_report_prove.specs.declared.diagnosis.Diagnosis.{Diagnosis}
use Rattle.og_report_runs.specs.Json.{with_member, with_run, explored_data}
use Rattle.og_report_runs.specs.declared.lines.Explored.{Explored}
use Rattle.og_report_runs.specs.declared.witness.Run.{Run}
use Rattle.og_report_findings.specs.Entries.{Entry, unproved_from}
use Rattle.og_report_findings.specs.Verdicts.{concluded, words_of}

-- how far runs were followed, where some were
abbrev pub with_explored : Option Explored → List Run → Data → Data
with_explored None rs d = d
with_explored (Some e) rs d = with_member (codes "runs") (explored_data e rs) d

module _ (o : Program) (source : List ℕ) where
  abbrev pub finding_data : Entry → Data
  finding_data e = diagnosis_data o.names source e.number e.condition e.diagnosis

  -- a condition that is not proved, with what is known of the runs where some were followed
  abbrev pub entry_data : Option Explored → Entry → Data
  entry_data None e = finding_data e
  entry_data (Some x) e = with_run o e.diagnosis e.run (finding_data e)

  abbrev pub report_data : Option Explored → List Condition → List Diagnosis → List Run → Data
  report_data x cs ts rs =
      with_member (codes "verdict") (string (words_of (concluded ts x)))
      (with_explored x rs (totals_data ts (array (items_of (map (entry_data x) (unproved_from 1 cs ts rs))))))

  abbrev pub json_text : Option Explored → List Condition → List Diagnosis → List Run → List ℕ
  json_text x cs ts rs = compact_text (report_data x cs ts rs)
