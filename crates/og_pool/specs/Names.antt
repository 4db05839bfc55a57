-- The number and the name of a fault.
use Rattle.std.specs.Prelude.{ℕ, List, Option, Some, None, codes}
use Rattle.og_pool.specs.declared.fault.PoolFault.{PoolFault}
use Rattle.og_pool.specs.declared.fault.PoolFault.TheVariants as faults
use Rattle.og_pool.specs.declared.thread_fault.ThreadFault.{ThreadFault}
use Rattle.og_pool.specs.declared.thread_fault.ThreadFault.TheVariants as threads

-- refused memory has no number
abbrev pub number_of_fault : PoolFault → Option ℕ
number_of_fault faults.Memory = None
number_of_fault faults.Spawn = Some 40

abbrev pub name_of_fault : PoolFault → List ℕ
name_of_fault faults.Memory = codes "Memory"
name_of_fault faults.Spawn = codes "Spawn"

abbrev pub fault_of_threads : ThreadFault → PoolFault
fault_of_threads threads.Memory = faults.Memory
fault_of_threads threads.Spawn = faults.Spawn
