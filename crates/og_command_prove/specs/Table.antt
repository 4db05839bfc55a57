-- Findings by columns.
use Rattle.std.specs.Prelude.{◌≡◌, ◌<◌, ◌^◌, List, map, length, Option, Vec}
use Rattle.std.specs.Global.{Global}
use Rattle.og_cond.specs.Condition.{Condition}
use Rattle.og_cond.specs.Seen.{seen}
use Rattle.og_report_prove.specs.declared.diagnosis.Diagnosis.{Diagnosis}
use Rattle.og_report_runs.specs.declared.lines.Explored.{Explored}
use Rattle.og_report_runs.specs.declared.witness.Run.{Run}
use Rattle.og_report_findings.specs.declared.suggestion.Suggestion.{Suggestion}
use Rattle.og_command_prove.specs.declared.finding.Table.{Table}

-- what reports are printed of
pub record Columns : Type 0 where
  pub conditions : List Condition
  pub diagnoses : List Diagnosis
  pub runs : List Run
  pub explored : Option Explored
  -- what a text suggests below each false one
  pub advice : List (Vec Suggestion Global)

abbrev pub columns_of : Table → Columns
columns_of t = record {
  conditions = map seen t.conditions.items;
  diagnoses = t.diagnoses.items;
  runs = t.runs.items;
  explored = t.explored;
  advice = t.advice.items;
}

-- they are of one length
pub record IsTable (t : Table) : Type 0 where
  pub diagnoses : length t.diagnoses.items ≡ length t.conditions.items
  pub runs : length t.runs.items ≡ length t.conditions.items
  pub few : length t.diagnoses.items < 2 ^ 32
