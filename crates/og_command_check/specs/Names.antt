-- The number and the name of a fault.
use Rattle.std.specs.Prelude.{ℕ, List, Option, Some, None, codes}
use Rattle.og_io.specs.declared.reading.ReadFault.{ReadFault}
use Rattle.og_io.specs.declared.reading.ReadFault.TheVariants as read
use Rattle.og_pool.specs.declared.fault.PoolFault.{PoolFault}
use Rattle.og_pool.specs.declared.fault.PoolFault.TheVariants as pool
use Rattle.og_command_check.specs.declared.fault.EngineFault.{EngineFault}
use Rattle.og_command_check.specs.declared.fault.EngineFault.TheVariants as faults

abbrev pub number_of_fault : EngineFault → Option ℕ
number_of_fault faults.ReadFailed = Some 60
number_of_fault faults.WriteFailed = Some 61
number_of_fault faults.Spawn = Some 40
number_of_fault faults.Memory = None

abbrev pub name_of_fault : EngineFault → List ℕ
name_of_fault faults.ReadFailed = codes "ReadFailed"
name_of_fault faults.WriteFailed = codes "WriteFailed"
name_of_fault faults.Spawn = codes "Spawn"
name_of_fault faults.Memory = codes "Memory"

-- the fault of an input that was not read
abbrev pub of_read : ReadFault → EngineFault
of_read read.Failed = faults.ReadFailed
of_read read.Memory = faults.Memory

-- the fault of texts that were not judged
abbrev pub of_pool : PoolFault → EngineFault
of_pool pool.Spawn = faults.Spawn
of_pool pool.Memory = faults.Memory
