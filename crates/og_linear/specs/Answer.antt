-- What a call on forms may answer.
use Rattle.std.specs.Prelude.{◌≡◌, ℤ, ⊤, Option, Some, None, Result, Ok, Err, if◌then◌else◌, int_div}
use Rattle.std.specs.List.{list_all}
use Rattle.og_linear.specs.declared.fault.FormFault.{FormFault}
use Rattle.og_linear.specs.declared.fault.FormError.{FormError}
use Rattle.og_linear.specs.declared.fault.FormError.TheVariants as errors
use Rattle.og_linear.specs.Linear.{Terms, FormValue}
use Rattle.og_linear.specs.Bounded.{fits_i128, fits_terms, fits_form, divides, divide_terms}

-- the error is the fault, and there is no answer; or memory ran out
abbrev pub FailsAs : {Y : Type 0} → FormError → FormFault → Option Y → Type 0
FailsAs errors.Memory fault answer = ⊤
FailsAs (errors.Fault e) fault answer = (e ≡ fault) × (answer ≡ None)

-- the result, seen by view, is the answer, and this fault where there is none; or memory ran out
abbrev pub IsAnswer : {X Y : Type 0} → (X → Y) → FormFault → Result X FormError → Option Y → Type 0
IsAnswer view fault (Ok x) answer = answer ≡ Some (view x)
IsAnswer view fault (Err e) answer = FailsAs e fault answer

-- P, where memory ran out
abbrev pub OnMemory : {X : Type 0} → Result X FormError → Type 0 → Type 0
OnMemory (Ok x) P = ⊤
OnMemory (Err errors.Memory) P = P
OnMemory (Err (errors.Fault e)) P = ⊤

-- these, if each number fits 128 bits
abbrev pub checked_int : ℤ → Option ℤ
checked_int z = if fits_i128 z then Some z else None

abbrev pub checked_terms : Terms → Option Terms
checked_terms ts = if fits_terms ts then Some ts else None

abbrev pub checked : FormValue → Option FormValue
checked f = if fits_form f then Some f else None

-- c / d, if d divides c
abbrev pub divided_int : ℤ → ℤ → Option ℤ
divided_int d c = if divides d c then Some (int_div c d) else None

-- the terms divided by d, if d divides each coefficient
abbrev pub divided_terms : ℤ → Terms → Option Terms
divided_terms d ts = if list_all (λ t. divides d t.1) ts then Some (divide_terms d ts) else None
