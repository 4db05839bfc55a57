-- As JSON.
use Rattle.std.specs.Prelude.{ℕ, ℤ, true, List, ◌++◌, length, map, codes}
use Rattle.serde_json.specs.Data.{Data, string, boolean, array, object, member, no_members, put}
use Rattle.serde_json.specs.View.{items_of}
use Rattle.og_report_text.specs.Numbers.{natural}
use Rattle.og_typed.specs.Syntax.{Program}
use Rattle.og_report_text.specs.Processes.{printed_number}
use Rattle.og_report_text.specs.Values.{numbers}
use Rattle.og_report_prove.specs.declared.diagnosis.Diagnosis.{Diagnosis}
use Rattle.og_report_prove.specs.declared.diagnosis.Diagnosis.TheVariants as diagnosis
use Rattle.og_report_prove.specs.Members.{with_values}
use Rattle.og_report_runs.specs.declared.witness.Run.{Run}
use Rattle.og_report_runs.specs.declared.witness.Run.TheVariants as run
use Rattle.og_report_runs.specs.declared.witness.Witness.{Witness}
use Rattle.og_report_runs.specs.Report.{count_reached}
use Rattle.og_report_runs.specs.declared.lines.Explored.{Explored}

-- an object with one member more
abbrev pub with_member : List ℕ → Data → Data → Data
with_member key d (object ms) = object (put key d ms)
with_member key d other = other

-- how far the exploration went
abbrev pub explored_data : Explored → List Run → Data
explored_data e rs = object
    (member (codes "complete") (boolean e.complete)
    (member (codes "moments") (natural e.moments)
    (member (codes "reached") (natural (count_reached rs))
    (member (codes "starts") (natural e.starts) no_members))))

-- the processes that stepped, the main process as 0
abbrev pub history_items : ℕ → List ℕ → List Data
history_items main ps = map (λ p. natural (printed_number main p)) ps

module _ (o : Program) where
  -- the values of all variables at a start, where those that are no auxiliaries have these
  abbrev pub start_data : List ℤ → Data
  start_data values = object (with_values o.names true (values ++ o.aux_values) (numbers (length o.names)) no_members)

  -- a run that gets there
  abbrev pub witness_data : Witness → Data
  witness_data w = object
      (member (codes "found") (string (codes "reached"))
      (member (codes "history") (array (items_of (history_items (length o.processes) w.history.items)))
      (member (codes "start") (start_data w.values) no_members)))

  abbrev pub run_data : Run → Data
  run_data (run.Reached w) = witness_data w.value
  run_data run.Never = object (member (codes "found") (string (codes "no")) no_members)
  run_data run.Open = object (member (codes "found") (string (codes "open")) no_members)

  -- of a false condition alone
  abbrev pub with_run : Diagnosis → Run → Data → Data
  with_run diagnosis.Proved r d = d
  with_run (diagnosis.False block) r d = with_member (codes "run") (run_data r) d
  with_run diagnosis.Open r d = d
