-- The diagnoses of all conditions prove the outline.
use Rattle.std.proofs.Common.{◌≡◌, List, true}
use Rattle.og_typed.specs.Syntax.{Program}
use Rattle.og_cond.specs.Conditions.{conditions, safety_conditions, blocking_condition}
use Rattle.og_theorem.specs.Proved.{IsProved}
use Rattle.og_report_prove.specs.Report.{is_safe, is_unblocked}
use Rattle.og_report_prove.specs.Diagnosis.{AreDiagnoses}
use Rattle.og_report_prove.specs.declared.diagnosis.Diagnosis.{Diagnosis}
use Rattle.og_report_prove.proofs.Answered.{safe_is_valid, unblocked_is_valid}

pub proved_by : (o : Program) (ts : List Diagnosis) → AreDiagnoses o (conditions o) ts → is_safe ts ≡ true → IsProved o (is_unblocked ts)
proved_by o ts diagnoses safe =
    (safe_is_valid o (safety_conditions o) (blocking_condition o) ts diagnoses safe, λ yes. unblocked_is_valid o (safety_conditions o) (blocking_condition o) ts diagnoses yes)
