-- The error that one of the workers becomes.
use Rattle.og_pool.specs.declared.fault.PoolFault.{PoolFault}
use Rattle.og_pool.specs.declared.fault.PoolFault.TheVariants as pool
use Rattle.og_lsp_document.specs.declared.fault.JudgeError.{JudgeError}
use Rattle.og_lsp_document.specs.declared.fault.JudgeError.TheVariants as judging

abbrev pub of_pool : PoolFault → JudgeError
of_pool pool.Memory = judging.Memory
of_pool pool.Spawn = judging.Spawn
