-- What the making of the first moment answers.
use Rattle.std.specs.Prelude.{◌≡◌, ⊤, ℤ, List, Option, Some, None, Result, Ok, Err}
use Rattle.og_typed.specs.Syntax.{Program}
use Rattle.og_typed.specs.Machine.{start_of}
use Rattle.og_step.specs.declared.fault.StartFault.{StartFault}
use Rattle.og_step.specs.declared.fault.StartError.{StartError}
use Rattle.og_step.specs.declared.fault.StartError.TheVariants as errors
use Rattle.og_step.specs.Progress.{Progress}
use Rattle.og_step.specs.Starts.{start_fault}

abbrev pub FailsAs : StartError → Option StartFault → Type 0
FailsAs errors.Memory fault = ⊤
FailsAs (errors.Fault e) fault = fault ≡ Some e

-- the first moment where there is no fault, and else that fault; or memory ran out
abbrev pub Starts : Result Progress StartError → Program → List ℤ → Type 0
Starts (Ok a) o values = (start_fault o values ≡ None) × (a ≡ record { outline = o; moment = start_of o values })
Starts (Err e) o values = FailsAs e (start_fault o values)
