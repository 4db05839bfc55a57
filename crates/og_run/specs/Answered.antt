-- What a run answers.
use Rattle.std.specs.Prelude.{◌≡◌, ⊤, Option, Some, None, Result, Ok, Err}
use Rattle.og_step.specs.Starts.{start_fault}
use Rattle.og_step.specs.declared.fault.StartFault.{StartFault}
use Rattle.og_step.specs.declared.fault.StartFault.TheVariants as starts
use Rattle.og_run.specs.Runs.{Given}
use Rattle.og_run.specs.Ends.{IsOutcome}
use Rattle.og_run.specs.declared.outcome.Outcome.{Outcome}
use Rattle.og_run.specs.declared.fault.RunFault.TheVariants as faults
use Rattle.og_run.specs.declared.fault.RunError.{RunError}
use Rattle.og_run.specs.declared.fault.RunError.TheVariants as errors

-- the fault of the start, or there was none and a thread could not be started; or memory ran out
abbrev pub RunFails : RunError → Option StartFault → Type 0
RunFails errors.Memory fault = ⊤
RunFails (errors.Fault faults.WrongLength) fault = fault ≡ Some starts.WrongLength
RunFails (errors.Fault faults.NotPre) fault = fault ≡ Some starts.NotPre
RunFails (errors.Fault faults.Spawn) fault = fault ≡ None

abbrev pub Runs : Result Outcome RunError → Given → Type 0
Runs (Ok r) g = IsOutcome g r
Runs (Err e) g = RunFails e (start_fault g.outline g.values)
