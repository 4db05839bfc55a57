-- What a call that resolves a part of a tree may answer.
use Rattle.std.specs.Prelude.{◌≡◌, ⊤, Result, Ok, Err}
use Rattle.og_typed.specs.declared.fault.TypeError.{TypeError}
use Rattle.og_typed.specs.declared.fault.TypeError.TheVariants as errors
use Rattle.og_typed.specs.Resolved.{Checked}

-- the error is the answer's fault; or memory ran out
abbrev pub FailsAs : {Y : Type 0} → TypeError → Checked Y → Type 0
FailsAs errors.Memory answer = ⊤
FailsAs (errors.Fault fault) answer = answer ≡ Err fault

-- the result, seen by view, is the answer; or memory ran out
abbrev pub IsResolved : {X Y : Type 0} → (X → Y) → Result X TypeError → Checked Y → Type 0
IsResolved view (Ok x) answer = answer ≡ Ok (view x)
IsResolved view (Err e) answer = FailsAs e answer

-- P, where memory ran out
abbrev pub OnMemory : {X : Type 0} → Result X TypeError → Type 0 → Type 0
OnMemory (Ok x) P = ⊤
OnMemory (Err errors.Memory) P = P
OnMemory (Err (errors.Fault fault)) P = ⊤
