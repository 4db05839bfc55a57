-- No float stands in the JSON.
use Rattle.std.proofs.Common.{◌≡◌, ℕ, List, [], ◌∷◌, ◌++◌, length, true, false, refl, codes}
use Rattle.serde_json.specs.Data.{Data, null, boolean, number, string, array, object, no_members}
use Rattle.serde_json.specs.View.{items_of}
use Rattle.serde_json.specs.Written.{has_float, items_have_float}
use Rattle.og_typed.specs.Syntax.{Program}
use Rattle.og_report_text.specs.Values.{numbers}
use Rattle.og_report_prove.specs.declared.diagnosis.Diagnosis.{Diagnosis}
use Rattle.og_report_prove.specs.declared.diagnosis.Diagnosis.TheVariants as diagnosis
use Rattle.og_report_prove.proofs.Puts.{neither, no_float_put}
use Rattle.og_report_prove.proofs.Floats.{no_float_values}
use Rattle.og_report_runs.specs.declared.witness.Run.{Run}
use Rattle.og_report_runs.specs.declared.witness.Run.TheVariants as run
use Rattle.og_report_runs.specs.Json.{with_member, history_items, run_data, with_run}

pub no_float_with : (key : List ℕ) (d e : Data) → has_float d ≡ false → has_float e ≡ false → has_float (with_member key d e) ≡ false
no_float_with key d null p q = q
no_float_with key d (boolean b) p q = q
no_float_with key d (number n) p q = q
no_float_with key d (string s) p q = q
no_float_with key d (array ds) p q = q
no_float_with key d (object ms) p q = no_float_put key d ms p q

no_float_history : (main : ℕ) (ps : List ℕ) → items_have_float (items_of (history_items main ps)) ≡ false
no_float_history main [] = refl
no_float_history main (p ∷ ps) = no_float_history main ps

no_float_run : (o : Program) (r : Run) → has_float (run_data o r) ≡ false
no_float_run o (run.Reached w) =
    neither _ _ (no_float_history (length o.processes) w.value.history.items)
    (neither _ _ (no_float_values o.names true (w.value.values ++ o.aux_values) (numbers (length o.names)) no_members refl) refl)
no_float_run o run.Never = refl
no_float_run o run.Open = refl

pub no_float_with_run : (o : Program) (t : Diagnosis) (r : Run) (d : Data) → has_float d ≡ false → has_float (with_run o t r d) ≡ false
no_float_with_run o diagnosis.Proved r d h = h
no_float_with_run o (diagnosis.False block) r d h = no_float_with (codes "run") (run_data o r) d (no_float_run o r) h
no_float_with_run o diagnosis.Open r d h = h
