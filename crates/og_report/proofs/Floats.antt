-- No float stands in a report.
use Rattle.std.proofs.Common.{◌≡◌, ℕ, suc, List, [], ◌∷◌, ◌++◌, Bool, true, false, cond, refl, ap, ◌∙◌, Option, Some, None}
use Rattle.serde_json.specs.Data.{Data}
use Rattle.serde_json.specs.View.{items_of}
use Rattle.serde_json.specs.Written.{has_float, items_have_float}
use Rattle.og_cond.specs.declared.kind.Kind.{Kind}
use Rattle.og_pool.specs.declared.status.Status.{Status}
use Rattle.og_pool.specs.declared.status.Status.TheVariants as status
use Rattle.og_judge.specs.declared.entry.Entry.{Entry}
use Rattle.og_judge.specs.Entries.{is_proved}
use Rattle.og_report.specs.Json.{entry_data, unproved_data, report_data}

entry_with : Kind → ℕ → Option ℕ → Status → Entry
entry_with kind at action_at s = record { kind = kind; at = at; action_at = action_at; status = s }

no_float_with : (source : List ℕ) (n : ℕ) (kind : Kind) (at : ℕ) (a : Option ℕ) (s : Status) → has_float (entry_data source n (entry_with kind at a s)) ≡ false
unfolding entry_with
no_float_with source n kind at None status.Missing = refl
no_float_with source n kind at None status.TooLarge = refl
no_float_with source n kind at None status.Proved = refl
no_float_with source n kind at None (status.Failed fault) = refl
no_float_with source n kind at (Some b) status.Missing = refl
no_float_with source n kind at (Some b) status.TooLarge = refl
no_float_with source n kind at (Some b) status.Proved = refl
no_float_with source n kind at (Some b) (status.Failed fault) = refl

no_float_entry : (source : List ℕ) (n : ℕ) (e : Entry) → has_float (entry_data source n e) ≡ false
unfolding entry_with
no_float_entry source n e = no_float_with source n e.kind e.at e.action_at e.status

no_float_step : (source : List ℕ) (n : ℕ) (e : Entry) (es : List Entry) (b : Bool) → items_have_float (items_of (unproved_data source (suc n) es)) ≡ false
    → items_have_float (items_of (cond b [] (entry_data source n e ∷ []) ++ unproved_data source (suc n) es)) ≡ false
no_float_step source n e es true h = h
no_float_step source n e es false h = rw (no_float_entry source n e) h

no_float_list : (source : List ℕ) (n : ℕ) (es : List Entry) → items_have_float (items_of (unproved_data source n es)) ≡ false
no_float_list source n [] = refl
no_float_list source n (e ∷ es) = no_float_step source n e es (is_proved e) (no_float_list source (suc n) es)

no_float : (source : List ℕ) (es : List Entry) → has_float (report_data source es) ≡ false
no_float source es = rw (no_float_list source 1 es) refl

pub no_float_value : (v : Data) (source : List ℕ) (es : List Entry) → v ≡ report_data source es → has_float v ≡ false
no_float_value v source es is = ap has_float is ∙ no_float source es
