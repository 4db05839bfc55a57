-- No float stands in the JSON.
use Rattle.std.proofs.Common.{◌≡◌, ℕ, ◌+◌, ℤ, pos, negsuc, List, [], ◌∷◌, ◌++◌, Bool, true, false, ◌&&◌, cond, refl, Option, Some, None, map, option_map, codes, Bor}
use Rattle.serde_json.specs.Data.{Data, number, Members, no_members, put}
use Rattle.serde_json.specs.Find.{of_integer}
use Rattle.serde_json.specs.View.{items_of}
use Rattle.serde_json.specs.Written.{has_float, items_have_float, members_have_float}
use Rattle.og_report_text.specs.Numbers.{natural}
use Rattle.og_linear.specs.Linear.{fits_i64, value_at}
use Rattle.og_text.specs.Place.{line_at, column_at}
use Rattle.og_typed.specs.Plain.{formula}
use Rattle.og_typed.specs.declared.assertion.Assert.{Assert}
use Rattle.og_cond.specs.Condition.{Condition}
use Rattle.og_typed.specs.declared.sites.StatementSite.{StatementSite}
use Rattle.og_report_explain.specs.declared.explanation.Fault.{Fault}
use Rattle.og_report_explain.specs.declared.explanation.Fault.TheVariants as fault
use Rattle.og_report_prove.specs.declared.diagnosis.Diagnosis.{Diagnosis}
use Rattle.og_report_prove.specs.declared.diagnosis.Diagnosis.TheVariants as diagnosis
use Rattle.og_report_prove.specs.Ends.{end_of}
use Rattle.og_report_prove.specs.Members.{digits_data, value_data, if_some, name_of, with_values}
use Rattle.og_report_prove.specs.Json.{after_of, conjunct_data, false_of, too_large_of, state_member, after_member, false_member, too_large_member, last_members, middle_members, diagnosis_data}
use Rattle.og_report_prove.proofs.Puts.{neither, no_float_put}

-- ---- values

no_float_choice : (small : Bool) (v : ℤ) → has_float (cond small (number (of_integer v)) (digits_data v)) ≡ false
no_float_choice true (pos n) = refl
no_float_choice true (negsuc n) = refl
no_float_choice false v = refl

pub no_float_values : (names : List (List ℕ)) (numbers : Bool) (s : List ℤ) (xs : List ℕ) (ms : Members) → members_have_float ms ≡ false
    → members_have_float (with_values names numbers s xs ms) ≡ false
no_float_values names numbers s [] ms h = h
no_float_values names numbers s (x ∷ xs) ms h =
    let v = value_at s x in
    no_float_values names numbers s xs (put (name_of names x) (value_data numbers v) ms)
    (no_float_put (name_of names x) (value_data numbers v) ms (no_float_choice (numbers && fits_i64 v) v) h)

-- ---- members that may be missing

abbrev pub optional_has_float : Option Data → Bool
optional_has_float None = false
optional_has_float (Some d) = has_float d

pub no_float_if : (key : List ℕ) (d : Option Data) (ms : Members) → optional_has_float d ≡ false → members_have_float ms ≡ false → members_have_float (if_some key d ms) ≡ false
no_float_if key None ms p q = q
no_float_if key (Some d) ms p q = neither (has_float d) (members_have_float ms) p q

pub no_float_conjuncts : (names : List (List ℕ)) (found : List (Bor Assert)) → items_have_float (items_of (map (λ a. conjunct_data names (formula a.now)) found)) ≡ false
no_float_conjuncts names [] = refl
no_float_conjuncts names (a ∷ found) = no_float_conjuncts names found

no_float_after_of : (f : Fault) (action : Option StatementSite) (d : Data) → has_float d ≡ false → optional_has_float (after_of f action d) ≡ false
no_float_after_of (fault.False note found) None d h = refl
no_float_after_of (fault.False note found) (Some site) d h = h
no_float_after_of (fault.TooLarge x v) action d h = refl
no_float_after_of (fault.Blocked stands) action d h = refl

no_float_false_of : (names : List (List ℕ)) (source : List ℕ) (f : Fault) → optional_has_float (false_of names source f) ≡ false
no_float_false_of names source (fault.False note found) = neither (items_have_float (items_of (map (λ a. conjunct_data names (formula a.now)) found.items))) false (no_float_conjuncts names found.items) refl
no_float_false_of names source (fault.TooLarge x v) = refl
no_float_false_of names source (fault.Blocked stands) = refl

no_float_too_large_of : (names : List (List ℕ)) (f : Fault) → optional_has_float (too_large_of names f) ≡ false
no_float_too_large_of names (fault.False note found) = refl
no_float_too_large_of names (fault.TooLarge x v) = refl
no_float_too_large_of names (fault.Blocked stands) = refl

no_float_state : (names : List (List ℕ)) (t : Diagnosis) → optional_has_float (state_member names t) ≡ false
no_float_state names diagnosis.Proved = refl
no_float_state names (diagnosis.False block) =
    let first = with_values names true block.values block.details.value.state.items no_members in
    no_float_values names true block.values block.details.value.besides.items first (no_float_values names true block.values block.details.value.state.items no_members refl)
no_float_state names diagnosis.Open = refl

no_float_after : (names : List (List ℕ)) (t : Diagnosis) → optional_has_float (after_member names t) ≡ false
no_float_after names diagnosis.Proved = refl
no_float_after names (diagnosis.False block) =
    no_float_after_of block.details.value.explanation.fault block.details.value.explanation.action _ (no_float_values names false block.details.value.explanation.after block.details.value.assigned.items no_members refl)
no_float_after names diagnosis.Open = refl

no_float_false : (names : List (List ℕ)) (source : List ℕ) (t : Diagnosis) → optional_has_float (false_member names source t) ≡ false
no_float_false names source diagnosis.Proved = refl
no_float_false names source (diagnosis.False block) = no_float_false_of names source block.details.value.explanation.fault
no_float_false names source diagnosis.Open = refl

no_float_too_large : (names : List (List ℕ)) (t : Diagnosis) → optional_has_float (too_large_member names t) ≡ false
no_float_too_large names diagnosis.Proved = refl
no_float_too_large names (diagnosis.False block) = no_float_too_large_of names block.details.value.explanation.fault
no_float_too_large names diagnosis.Open = refl

-- ---- conditions

no_float_last : (names : List (List ℕ)) (t : Diagnosis) → members_have_float (last_members names t) ≡ false
no_float_last names t =
    no_float_if (codes "state") (state_member names t) _ (no_float_state names t)
    (no_float_if (codes "too_large") (too_large_member names t) no_members (no_float_too_large names t) refl)

no_float_middle : (names : List (List ℕ)) (source : List ℕ) (n : ℕ) (c : Condition) (t : Diagnosis) → members_have_float (middle_members names source n c t) ≡ false
no_float_middle names source n c t = no_float_if (codes "false") (false_member names source t) _ (no_float_false names source t) (no_float_last names t)

no_float_place : (f : ℕ → ℕ) (at : Option ℕ) → optional_has_float (option_map (λ a. natural (f a)) at) ≡ false
no_float_place f None = refl
no_float_place f (Some at) = refl

pub no_float_diagnosis : (names : List (List ℕ)) (source : List ℕ) (n : ℕ) (c : Condition) (t : Diagnosis) → has_float (diagnosis_data names source n c t) ≡ false
no_float_diagnosis names source n c t =
    let middle = middle_members names source n c t in
    let column = option_map (λ at. natural (column_at source at)) c.action_at in
    let end_column = option_map (λ at. natural (column_at source (end_of source at))) c.action_at in
    let end_line = option_map (λ at. natural (line_at source (end_of source at))) c.action_at in
    let line = option_map (λ at. natural (line_at source at)) c.action_at in
    let after = if_some (codes "after") (after_member names t) middle in
    let third = if_some (codes "action_line") line after in
    let second = if_some (codes "action_end_line") end_line third in
    no_float_if (codes "action_column") column (if_some (codes "action_end_column") end_column second) (no_float_place (column_at source) c.action_at)
    (no_float_if (codes "action_end_column") end_column second (no_float_place (λ at. column_at source (end_of source at)) c.action_at)
    (no_float_if (codes "action_end_line") end_line third (no_float_place (λ at. line_at source (end_of source at)) c.action_at)
    (no_float_if (codes "action_line") line after (no_float_place (line_at source) c.action_at)
    (no_float_if (codes "after") (after_member names t) middle (no_float_after names t) (no_float_middle names source n c t)))))

pub no_float_step : (d : Data) (rest : List Data) (b : Bool) → has_float d ≡ false → items_have_float (items_of rest) ≡ false → items_have_float (items_of (cond b [] (d ∷ []) ++ rest)) ≡ false
no_float_step d rest true p q = q
no_float_step d rest false p q = neither (has_float d) (items_have_float (items_of rest)) p q
