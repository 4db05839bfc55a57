-- What an engine leaves: on its readers, and on a writer that failed.
use Rattle.std.proofs.Common.{◌≡◌, ℕ, List, Option, None, Some, IfSome, Result, Ok, Err, IfErr, subst}
use Rattle.std.specs.Io.KnownBytes.{Consumes}
use Rattle.og_command_check.specs.declared.fault.EngineFault.{EngineFault}
use Rattle.og_command_check.specs.declared.fault.EngineFault.TheVariants as faults

-- ---- whole engines

pub consumed : (front : List ℕ → List ℕ) (a b : Option (List ℕ)) (t : List ℕ) → IfSome a (λ input. t ≡ front input) → Consumes a b t
    → IfSome a (λ input. Consumes (Some input) b (front input))
consumed front None b t p c = tt
consumed front (Some x) b t p c = subst (Consumes (Some x) b) p c

-- ---- errors

pub of_failed_write : {T : Type 0} (r : Result T EngineFault) (P : Type 0) → P → IfErr r (λ e. e ≡ faults.WriteFailed → P)
of_failed_write (Ok x) P h = tt
of_failed_write (Err e) P h = λ same. h
