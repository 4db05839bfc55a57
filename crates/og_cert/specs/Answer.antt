-- What a replay and its checks may answer.
use Rattle.std.specs.Prelude.{◌≡◌, ℕ, ◌+◌, List, length, ⊤, true, false, Option, Some, None, Result, Ok, Err}
use Rattle.og_linear.specs.declared.fault.FormError.{FormError}
use Rattle.og_linear.specs.declared.fault.FormError.TheVariants as form_errors
use Rattle.og_facts.specs.Facts.{Fact}
use Rattle.og_cert_text.specs.Tree.{Cert, Certs}
use Rattle.og_cert_text.specs.declared.cert.CertStep.{CertStep}
use Rattle.og_cert_text.specs.Plain.{with_steps}
use Rattle.og_cert.specs.declared.fault.FaultKind.{FaultKind}
use Rattle.og_cert.specs.declared.fault.ReplayFault.{ReplayFault}
use Rattle.og_cert.specs.declared.fault.ReplayError.{ReplayError}
use Rattle.og_cert.specs.declared.fault.ReplayError.TheVariants as errors
use Rattle.og_cert.specs.declared.fault.CheckError.{CheckError}
use Rattle.og_cert.specs.declared.fault.CheckError.TheVariants as check_errors
use Rattle.og_cert.specs.Closes.{closes}
use Rattle.og_cert.specs.Faults.{lines, lines_of, fault_at, fault_from, fault_parts, first_fault}

-- the error is the fault of the check; or memory ran out
abbrev pub StopsWith : {Y : Type 0} → CheckError → Result Y FaultKind → Type 0
StopsWith check_errors.Memory check = ⊤
StopsWith (check_errors.Fault kind) check = check ≡ Err kind

-- the result, seen by view, is what the check gives; or memory ran out
abbrev pub IsChecked : {X Y : Type 0} → (X → Y) → Result X CheckError → Result Y FaultKind → Type 0
IsChecked view (Ok x) check = check ≡ Ok (view x)
IsChecked view (Err e) check = StopsWith e check

-- the result of the arithmetic, with this kind in place of its fault
abbrev pub or_kind : {X : Type 0} → FaultKind → Result X FormError → Result X CheckError
or_kind kind (Ok x) = Ok x
or_kind kind (Err form_errors.Memory) = Err check_errors.Memory
or_kind kind (Err (form_errors.Fault e)) = Err (check_errors.Fault kind)

-- the result of a check of this line
abbrev pub located : {X : Type 0} → ℕ → Result X CheckError → Result X ReplayError
located line (Ok x) = Ok x
located line (Err check_errors.Memory) = Err errors.Memory
located line (Err (check_errors.Fault kind)) = Err (errors.Fault (fault_at line kind))

-- the error is the fault; or memory ran out
abbrev pub FailsWith : ReplayError → Option ReplayFault → Type 0
FailsWith errors.Memory fault = ⊤
FailsWith (errors.Fault f) fault = fault ≡ Some f

-- the certificate from this line on has no fault, and the result is the line after it; or the error is its first fault
abbrev pub Replays : ℕ → ℕ → List Fact → Cert → Result ℕ ReplayError → Type 0
Replays line n fs c (Ok next) = (fault_from line n fs c ≡ None) × (next ≡ line + lines c)
Replays line n fs c (Err e) = FailsWith e (fault_from line n fs c)

-- the same of the certificates of a split at this line
abbrev pub ReplaysParts : ℕ → ℕ → List Fact → List (List Fact) → Certs → Result ℕ ReplayError → Type 0
ReplaysParts line n fs ps cs (Ok next) = (fault_parts (line + 1) line n fs ps cs ≡ None) × (next ≡ line + 1 + lines_of cs)
ReplaysParts line n fs ps cs (Err e) = FailsWith e (fault_parts (line + 1) line n fs ps cs)

-- after these steps the facts are the new ones, and what stands there goes on at the result's line; or the error is their first fault
abbrev pub TakesSteps : ℕ → ℕ → List Fact → List Fact → List CertStep → Result ℕ ReplayError → Type 0
TakesSteps line n old new steps (Ok next) =
    (next ≡ line + length steps) × ((c : Cert) → fault_from line n old (with_steps steps c) ≡ fault_from next n new c)
TakesSteps line n old new steps (Err e) = (c : Cert) → FailsWith e (fault_from line n old (with_steps steps c))

-- the certificate closes the facts and has no fault; or it doesn't, and the error is its first one; or memory ran out
abbrev pub IsReplay : ℕ → List Fact → Cert → Result (Unit {0}) ReplayError → Type 0
IsReplay n fs c (Ok x) = (closes n fs c ≡ true) × (first_fault n fs c ≡ None)
IsReplay n fs c (Err errors.Memory) = ⊤
IsReplay n fs c (Err (errors.Fault fault)) = (closes n fs c ≡ false) × (first_fault n fs c ≡ Some fault)
