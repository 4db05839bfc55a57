-- Findings with advice.
use Rattle.std.proofs.Common.{◌≡◌, List, map}
use Rattle.std.specs.Global.{Global}
use Rattle.std.specs.Prelude.{Vec, Option}
use Rattle.og_cond.specs.Condition.{Condition}
use Rattle.og_cond.specs.Seen.{seen}
use Rattle.og_report_prove.specs.declared.diagnosis.Diagnosis.{Diagnosis}
use Rattle.og_report_runs.specs.declared.lines.Explored.{Explored}
use Rattle.og_report_runs.specs.declared.witness.Run.{Run}
use Rattle.og_report_findings.specs.declared.suggestion.Suggestion.{Suggestion}
use Rattle.og_command_prove.specs.Table.{Columns, columns_of}
use Rattle.og_command_prove.specs.declared.finding.Table.{Table}

abbrev columns : List Condition → List Diagnosis → List Run → Option Explored → List (Vec Suggestion Global) → Columns
columns cs ts rs e advice = record { conditions = cs; diagnoses = ts; runs = rs; explored = e; advice = advice }

pub is_table : (cs : List Condition) (ts : List Diagnosis) (rs : List Run) (e : Option Explored) (advice : List (Vec Suggestion Global)) (t : Table) → map seen t.conditions.items ≡ cs → t.diagnoses.items ≡ ts
    → t.runs.items ≡ rs → t.explored ≡ e → t.advice.items ≡ advice → columns_of t ≡ columns cs ts rs e advice
is_table cs ts rs e advice t conditions diagnoses runs explored advised =
    λ i. record { conditions = conditions i; diagnoses = diagnoses i; runs = runs i; explored = explored i; advice = advised i }
