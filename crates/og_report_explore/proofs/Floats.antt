-- No float stands in the JSON.
use Rattle.std.proofs.Common.{◌≡◌, ℕ, ℤ, true, false, List, [], ◌∷◌, length, map, codes, refl, ap, ◌∙◌}
use Rattle.serde_json.specs.Data.{Data, no_members}
use Rattle.serde_json.specs.View.{items_of}
use Rattle.serde_json.specs.Written.{has_float, items_have_float, members_have_float}
use Rattle.og_report_prove.proofs.Puts.{neither}
use Rattle.og_report_prove.proofs.Floats.{no_float_values, optional_has_float, no_float_if, no_float_conjuncts}
use Rattle.og_report_explore.specs.declared.finding.Fault.{Fault}
use Rattle.og_report_explore.specs.declared.finding.Fault.TheVariants as fault
use Rattle.og_report_explore.specs.declared.finding.Row.{Row}
use Rattle.og_report_explore.specs.declared.finding.Finding.{Finding}
use Rattle.og_report_explore.specs.declared.totals.Totals.{Totals}
use Rattle.og_report_text.specs.Values.{numbers}
use Rattle.og_report_explore.specs.Json.{process_member, history_items, state_data, false_member, last_members, finding_data, report_data}

no_float_state : (names : List (List ℕ)) (s : List ℤ) → has_float (state_data names s) ≡ false
no_float_state names s = no_float_values names true s (numbers (length names)) no_members refl

no_float_process : (main : ℕ) (f : Fault) → optional_has_float (process_member main f) ≡ false
no_float_process main (fault.Assertion p note all) = refl
no_float_process main (fault.Overflow p item x v) = refl
no_float_process main (fault.Post note all) = refl
no_float_process main (fault.Stuck stands) = refl

no_float_false : (names : List (List ℕ)) (f : Fault) → optional_has_float (false_member names f) ≡ false
no_float_false names (fault.Assertion p note all) = no_float_conjuncts names all.items
no_float_false names (fault.Overflow p item x v) = refl
no_float_false names (fault.Post note all) = no_float_conjuncts names all.items
no_float_false names (fault.Stuck stands) = refl

no_float_history : (main : ℕ) (rows : List Row) → items_have_float (items_of (history_items main rows)) ≡ false
no_float_history main [] = refl
no_float_history main (row ∷ rows) = no_float_history main rows

module _ (names : List (List ℕ)) (source : List ℕ) (main at : ℕ) where
  no_float_last : (f : Finding) → members_have_float (last_members names source main at f) ≡ false
  no_float_last f =
      no_float_if (codes "process") (process_member main f.fault) _ (no_float_process main f.fault)
      (neither _ _ (no_float_state names f.start) (neither _ _ (no_float_state names f.state) refl))

  no_float_finding : (f : Finding) → has_float (finding_data names source main at f) ≡ false
  no_float_finding f =
      no_float_if (codes "false") (false_member names f.fault) _ (no_float_false names f.fault)
      (neither _ _ (no_float_history main f.rows.items) (no_float_last f))

  no_float_findings : (fs : List Finding) → items_have_float (items_of (map (finding_data names source main at) fs)) ≡ false
  no_float_findings [] = refl
  no_float_findings (f ∷ fs) = neither _ _ (no_float_finding f) (no_float_findings fs)

  no_float : (t : Totals) (fs : List Finding) → has_float (report_data names source main at t fs) ≡ false
  no_float t fs = neither _ _ (no_float_findings fs) refl

  pub no_float_value_of : (v : Data) (t : Totals) (fs : List Finding) → v ≡ report_data names source main at t fs → has_float v ≡ false
  no_float_value_of v t fs is = ap has_float is ∙ no_float t fs
