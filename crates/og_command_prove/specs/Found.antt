-- What is found of the conditions of an outline, and how far runs were followed.
use Rattle.std.specs.Prelude.{◌≡◌, ℕ, ◌+◌, ◌*◌, ◌^◌, ◌≤◌, ◌<◌, ℤ, Bool, true, List, length, slice_get, slice_index_or, Option, Some, None, is_some, ⊤}
use Rattle.og_typed.specs.Syntax.{Program}
use Rattle.og_typed.specs.Machine.{Moment}
use Rattle.og_cond.specs.Condition.{Condition}
use Rattle.og_explore.specs.Seen.{IsKnown}
use Rattle.og_explore.specs.From.{IsFrom, IsReachedFrom}
use Rattle.og_explore.specs.Safety.{IsSafeFrom}
use Rattle.og_find.specs.Found.{IsFalseAt}
use Rattle.og_report_prove.specs.Diagnosis.{IsDiagnosis, IsAllowed}
use Rattle.og_report_prove.specs.declared.diagnosis.Diagnosis.{Diagnosis}
use Rattle.og_report_runs.specs.Runs.{IsRun}
use Rattle.og_report_runs.specs.RunDiagnosis.{IsDiagnosisBy}
use Rattle.og_report_runs.specs.declared.lines.Explored.{Explored}
use Rattle.og_report_runs.specs.declared.witness.Run.{Run}
use Rattle.og_report_runs.specs.declared.witness.Run.TheVariants as run
use Rattle.og_report_findings.specs.Verdicts.{has_false}
use Rattle.og_violation.specs.Violations.{IsViolation}
use Rattle.og_violation.specs.declared.violation.Violation.{Violation}
use Rattle.og_violation.specs.declared.violation.Wrong.{Wrong}

-- ---- one condition

-- where a run gets to a state, the diagnosis is of that state, and of where the run has the
-- processes; else, where it says where they stand, the assertion at each place is true
abbrev pub IsOfRun : Program → Run → Diagnosis → Type 0
IsOfRun o (run.Reached w) diagnosis = IsDiagnosisBy o w.value diagnosis
IsOfRun o run.Never diagnosis = IsAllowed o diagnosis
IsOfRun o run.Open diagnosis = IsAllowed o diagnosis

-- lists of ranges of values, within which runs start
abbrev pub Starts : Type 0
Starts = List (List (ℤ × ℤ))

-- the diagnosis of the condition is true of it, and so is what is said of the runs from the starts
-- within the lists; without these nothing is said of runs
abbrev pub IsFound : Program → Option Starts → Condition → Diagnosis → Run → Type 0
IsFound o None c t r = IsDiagnosis o c t × IsAllowed o t × (r ≡ run.Open)
IsFound o (Some lists) c t r = IsDiagnosis o c t × IsRun o lists c r × IsOfRun o r t

-- ---- how far runs were followed

-- these are all moments of all runs from the starts within the lists
abbrev pub AreAll : Program → Starts → List (List ℤ) → Type 0
AreAll o lists keys = (m : Moment) → IsReachedFrom o lists m → IsKnown o keys m

-- one of the conditions is false in some state
abbrev pub HasFalse : List Condition → Type 0
HasFalse cs = (i : ℕ) × (c : Condition) × (s : List ℤ) × (slice_get cs i ≡ Some c) × IsFalseAt c s

-- how many steps a search for runs tries at most
abbrev pub most_steps : ℕ
most_steps = 2 * 10 ^ 6

-- this is wrong at the end of a run from one of the starts
abbrev pub IsWrongIn : Program → Starts → Option Wrong → Type 0
IsWrongIn o lists None = ⊤
IsWrongIn o lists (Some wrong) = (v : Violation) × IsViolation o v × IsFrom lists v.values × (v.wrong ≡ wrong)

-- runs from the starts within the lists were followed
pub record IsReach (o : Program) (lists : Starts) (e : Explored) : Type 0 where
  pub all : e.complete ≡ true
      → (keys : List (List ℤ)) × (e.moments ≡ length keys) × AreAll o lists keys
  -- each moment but the starts is that of a step, and no more are tried
  pub few : e.moments ≤ e.starts + most_steps
  pub wrong : IsWrongIn o lists e.wrong
  -- where all were and nothing is wrong, nothing is at any moment of any run
  pub safe : e.complete ≡ true → e.wrong ≡ None → IsSafeFrom o lists

-- they were, but only where a condition is false
abbrev pub IsExplored : Program → List Condition → Option Starts → Option Explored → Type 0
IsExplored o cs None None = ⊤
IsExplored o cs None (Some e) = ⊥
IsExplored o cs (Some lists) None = ⊥
IsExplored o cs (Some lists) (Some e) = HasFalse cs × IsReach o lists e

-- runs were followed only where they are asked for, and then wherever a condition is false
pub record IsAsked (runs : Bool) (ts : List Diagnosis) (e : Option Explored) : Type 0 where
  pub asked : is_some e ≡ true → runs ≡ true
  pub looked : runs ≡ true → has_false ts ≡ true → is_some e ≡ true

-- ---- all of it

-- for each of the conditions there is a diagnosis and what is said of runs, in their order, and these
-- are so
pub record AreFoundOf (o : Program) (lists : Option Starts) (cs : List Condition) (ts : List Diagnosis)
    (rs : List Run) : Type 0 where
  pub diagnoses : length ts ≡ length cs
  pub runs : length rs ≡ length cs
  pub each : (i : ℕ) (c : Condition) (t : Diagnosis) (r : Run) → i < length cs
      → IsFound o lists (slice_index_or cs i c) (slice_index_or ts i t) (slice_index_or rs i r)

-- that, and how far runs were followed
pub record AreFound (o : Program) (cs : List Condition) (ts : List Diagnosis) (rs : List Run)
    (e : Option Explored) : Type 0 where
  pub lists : Option Starts
  pub found : AreFoundOf o lists cs ts rs
  pub explored : IsExplored o cs lists e
