-- What an error of a lower crate becomes.
use Rattle.og_step.specs.declared.fault.StartError.{StartError}
use Rattle.og_step.specs.declared.fault.StartError.TheVariants as start_errors
use Rattle.og_run.specs.declared.fault.RunFault.TheVariants as faults
use Rattle.og_run.specs.declared.fault.RunError.{RunError}
use Rattle.og_run.specs.declared.fault.RunError.TheVariants as errors
use Rattle.og_pool.specs.declared.thread_fault.ThreadFault.{ThreadFault}
use Rattle.og_pool.specs.declared.thread_fault.ThreadFault.TheVariants as threads
use Rattle.og_run.specs.Faults.{fault_of_start}

abbrev pub error_of_start : StartError → RunError
error_of_start start_errors.Memory = errors.Memory
error_of_start (start_errors.Fault e) = errors.Fault (fault_of_start e)

abbrev pub error_of_thread : ThreadFault → RunError
error_of_thread threads.Memory = errors.Memory
error_of_thread threads.Spawn = errors.Fault faults.Spawn
