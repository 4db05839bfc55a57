-- No float stands in the JSON.
use Rattle.std.proofs.Common.{◌≡◌, ℕ, List, [], ◌∷◌, false, Option, Some, None, map, refl, ap, ◌∙◌, codes}
use Rattle.serde_json.specs.Data.{Data, array, string}
use Rattle.serde_json.specs.View.{items_of}
use Rattle.serde_json.specs.Written.{has_float, items_have_float}
use Rattle.og_typed.specs.Syntax.{Program}
use Rattle.og_cond.specs.Condition.{Condition}
use Rattle.og_report_prove.specs.Json.{totals_data}
use Rattle.og_report_prove.specs.declared.diagnosis.Diagnosis.{Diagnosis}
use Rattle.og_report_prove.proofs.Puts.{neither}
use Rattle.og_report_prove.proofs.Floats.{no_float_diagnosis}
use Rattle.og_report_runs.specs.Json.{explored_data}
use Rattle.og_report_runs.specs.declared.lines.Explored.{Explored}
use Rattle.og_report_runs.specs.declared.witness.Run.{Run}
use Rattle.og_report_runs.proofs.Floats.{no_float_with, no_float_with_run}
use Rattle.og_report_findings.specs.Entries.{Entry, unproved_from}
use Rattle.og_report_findings.specs.Json.{entry_data, finding_data, with_explored, report_data}
use Rattle.og_report_findings.specs.Verdicts.{concluded, words_of}

no_float_entry : (o : Program) (source : List ℕ) (x : Option Explored) (e : Entry) → has_float (entry_data o source x e) ≡ false
no_float_entry o source None e = no_float_diagnosis o.names source e.number e.condition e.diagnosis
no_float_entry o source (Some x) e = no_float_with_run o e.diagnosis e.run (finding_data o source e) (no_float_diagnosis o.names source e.number e.condition e.diagnosis)

no_float_list : (o : Program) (source : List ℕ) (x : Option Explored) (es : List Entry) → items_have_float (items_of (map (entry_data o source x) es)) ≡ false
no_float_list o source x [] = refl
no_float_list o source x (e ∷ es) = neither (has_float (entry_data o source x e)) (items_have_float (items_of (map (entry_data o source x) es))) (no_float_entry o source x e) (no_float_list o source x es)

no_float_explored : (x : Option Explored) (rs : List Run) (d : Data) → has_float d ≡ false → has_float (with_explored x rs d) ≡ false
no_float_explored None rs d h = h
no_float_explored (Some e) rs d h = no_float_with (codes "runs") (explored_data e rs) d refl h

no_float_totals : (ts : List Diagnosis) (d : Data) → has_float d ≡ false → has_float (totals_data ts d) ≡ false
no_float_totals ts d h = neither (has_float d) false h refl

no_float : (o : Program) (source : List ℕ) (x : Option Explored) (cs : List Condition) (ts : List Diagnosis) (rs : List Run) → has_float (report_data o source x cs ts rs) ≡ false
no_float o source x cs ts rs =
    let unproved = array (items_of (map (entry_data o source x) (unproved_from 1 cs ts rs))) in
    no_float_with (codes "verdict") (string (words_of (concluded ts x))) (with_explored x rs (totals_data ts unproved)) refl
    (no_float_explored x rs (totals_data ts unproved) (no_float_totals ts unproved (no_float_list o source x (unproved_from 1 cs ts rs))))

pub no_float_value_of : (v : Data) (o : Program) (source : List ℕ) (x : Option Explored) (cs : List Condition) (ts : List Diagnosis) (rs : List Run) → v ≡ report_data o source x cs ts rs → has_float v ≡ false
no_float_value_of v o source x cs ts rs is = ap has_float is ∙ no_float o source x cs ts rs
