-- What assertions lack to prove a condition.
use Rattle.std.specs.Prelude.{◌≡◌, ◌<◌, ◌≤◌, ℕ, List, [], ◌∷◌, ◌++◌, length, map, slice_index_or, Bool, true, false, nat_eq, ◌&&◌, ◌||◌, Vec, ⊤}
use Rattle.std.specs.Global.{Global}
use Rattle.og_typed.specs.Plain.{formula, noted}
use Rattle.og_cond.specs.Condition.{Condition, Is, Yes}
use Rattle.og_cond.specs.Valid.{IsValid}
use Rattle.og_report_findings.specs.declared.suggestion.Suggestion.{Suggestion}
use Rattle.og_report_prove.specs.declared.diagnosis.Diagnosis.{Diagnosis}
use Rattle.og_report_prove.specs.declared.diagnosis.Diagnosis.TheVariants as diagnosis
use Rattle.og_command_prove.specs.declared.form.ReportForm.{ReportForm}
use Rattle.og_command_prove.specs.declared.form.ReportForm.TheVariants as forms

-- the condition with these conjuncts among its hypotheses
abbrev pub with_given : Condition → List Suggestion → Condition
with_given c ss = record c {
  hypotheses = c.hypotheses ++ map (λ s. Is (Yes (formula s.assertion.now))) ss;
}

-- the places of the assertions from which a false condition starts
abbrev pub places_of : Diagnosis → List ℕ
places_of diagnosis.Proved = []
places_of (diagnosis.False block) = map (λ n. (noted n.now).at) block.details.value.explanation.known.items
places_of diagnosis.Open = []

-- each is for an assertion at one of these places
abbrev pub has_place : List ℕ → ℕ → Bool
has_place [] at = false
has_place (p ∷ places) at = nat_eq p at || has_place places at

abbrev pub are_placed : List ℕ → List Suggestion → Bool
are_placed places [] = true
are_placed places (s ∷ ss) = has_place places s.at && are_placed places ss

-- with the conjuncts added to assertions from which it starts, the condition is true in every state
pub record IsEnough (c : Condition) (places : List ℕ) (ss : List Suggestion) : Type 0 where
  pub valid : IsValid (with_given c ss)
  pub placed : are_placed places ss ≡ true

-- so it is, where there are some
abbrev pub IsAdvice : Condition → List ℕ → List Suggestion → Type 0
IsAdvice c places [] = ⊤
IsAdvice c places (s ∷ ss) = IsEnough c places (s ∷ ss)

-- each is advice for one of the conditions, from the first on
pub record AreAdvised (cs : List Condition) (ts : List Diagnosis)
    (advice : List (Vec Suggestion Global)) : Type 0 where
  pub few : length advice ≤ length cs
  pub each : (i : ℕ) (c : Condition) (t : Diagnosis) (a : Vec Suggestion Global) → i < length advice
      → IsAdvice (slice_index_or cs i c) (places_of (slice_index_or ts i t)) (slice_index_or advice i a).items

-- there is some in one form alone
abbrev pub HasAdvice : ReportForm → List (Vec Suggestion Global) → Type 0
HasAdvice forms.Text advice = advice ≡ []
HasAdvice forms.Advised advice = ⊤
HasAdvice forms.Json advice = advice ≡ []
HasAdvice (forms.Page name) advice = advice ≡ []
