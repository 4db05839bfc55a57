-- What a certificate that closes facts shows.
use Rattle.std.specs.Prelude.{◌≡◌, ℕ, ℤ, List, length, true, false, None, Ok, ◌↔◌}
use Rattle.og_linear.specs.Linear.{IsProper}
use Rattle.og_cond.specs.Condition.{Condition}
use Rattle.og_cond.specs.Valid.{IsValid}
use Rattle.og_facts.specs.Facts.{Fact, facts_of}
use Rattle.og_facts.specs.Truth.{all_true_at}
use Rattle.og_cert_text.specs.Tree.{Cert}
use Rattle.og_cert_text.specs.Shallow.{cert_lines}
use Rattle.og_cert.specs.Closes.{closes}
use Rattle.og_cert.specs.Faults.{lines, first_fault}

-- the lines that are counted are those that are written
abbrev pub LinesAreWritten : Type 0
LinesAreWritten = (c : Cert) → lines c ≡ length (cert_lines c)

-- a certificate closes where it has no fault
abbrev pub ClosesWithoutFault : Type 0
ClosesWithoutFault = (n : ℕ) (fs : List Fact) (c : Cert) → (closes n fs c ≡ true) ↔ (first_fault n fs c ≡ None)

-- facts that are closed are not all true, at no state of i64 values
abbrev pub ClosedIsFalse : Type 0
ClosedIsFalse = (n : ℕ) (fs : List Fact) (c : Cert) (s : List ℤ) → IsProper s → closes n fs c ≡ true → all_true_at s fs ≡ false

-- a condition whose facts are closed is true
abbrev pub ClosedIsValid : Type 0
ClosedIsValid = (c : Condition) (n : ℕ) (fs : List Fact) (proof : Cert) → facts_of c ≡ Ok fs → closes n fs proof ≡ true → IsValid c
