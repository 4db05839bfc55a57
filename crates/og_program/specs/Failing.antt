-- Why a job cannot be done, and the text that says so.
use Rattle.std.specs.Prelude.{◌≡◌, ℕ, Bool, true, false, List, [], codes, Result, Ok, Err, ⊤}
use Rattle.og_io.specs.declared.fault.WriteFault.TheVariants as writes
use Rattle.og_report_text.specs.Places.{◌&◌}
use Rattle.og_report_refusal.specs.Names.{shown_name}
use Rattle.og_io.specs.declared.fault.OutputFault.{OutputFault}
use Rattle.og_io.specs.declared.fault.OutputFault.TheVariants as outputs
use Rattle.og_pool.specs.declared.fault.PoolFault.{PoolFault}
use Rattle.og_pool.specs.declared.fault.PoolFault.TheVariants as pool
use Rattle.og_program.specs.Opened.{FileNames, Opens}
use Rattle.og_program.specs.declared.fault.Fault.{Fault}
use Rattle.og_program.specs.declared.fault.Fault.TheVariants as faults
use Rattle.og_program.specs.declared.fault.Why.{Why}
use Rattle.og_program.specs.declared.fault.Why.TheVariants as whys

abbrev pub why_text : Why → List ℕ
why_text whys.Missing = codes "no such file"
why_text whys.Forbidden = codes "permission denied"
why_text whys.Directory = codes "is a directory"
why_text whys.Failed = codes "cannot be read"

abbrev pub fault_text : Fault → List ℕ
fault_text (faults.NotRead name why) =
    codes "og: " & shown_name name.now & codes ": " & why_text why & codes "\n"
fault_text (faults.NotWritten writes.Closed) = []
fault_text (faults.NotWritten writes.Failed) = codes "og: write failed\n"
fault_text faults.Memory = codes "og: out of memory\n"
fault_text faults.Spawn = codes "og: no thread\n"

-- memory ran out, or, only where S, a thread was not started
abbrev pub IsWant : Type 0 → Fault → Type 0
IsWant S (faults.NotRead name why) = ⊥
IsWant S (faults.NotWritten fault) = ⊥
IsWant S faults.Memory = ⊤
IsWant S faults.Spawn = S

-- a job that opens these files was not done: one of them was not read, or there was such a want;
-- nothing is written yet
abbrev pub IsFault : FileNames → Type 0 → Fault → Type 0
IsFault files S (faults.NotRead name why) = Opens files name.now
IsFault files S fault = IsWant S fault

abbrev pub is_not_read : Fault → Bool
is_not_read (faults.NotRead name why) = true
is_not_read _ = false

abbrev pub is_not_written : Fault → Bool
is_not_written (faults.NotWritten fault) = true
is_not_written _ = false

-- a file was not read
abbrev pub IsUnread : {A : Type 0} → Result A Fault → Type 0
IsUnread (Ok a) = ⊥
IsUnread (Err fault) = is_not_read fault ≡ true

-- refused memory, or a refused thread
abbrev pub of_pool : PoolFault → Fault
of_pool pool.Memory = faults.Memory
of_pool pool.Spawn = faults.Spawn

-- why a text that is written as it is made is not written whole
abbrev pub of_output : OutputFault → Fault
of_output outputs.Memory = faults.Memory
of_output (outputs.NotWritten why) = faults.NotWritten why
