-- How a session ends, and its status.
use Rattle.std.specs.Prelude.{ℕ, if◌then◌else◌}
use Rattle.og_io.specs.declared.fault.OutputFault.{OutputFault}
use Rattle.og_io.specs.declared.fault.OutputFault.TheVariants as outputs
use Rattle.og_lsp_document.specs.declared.fault.JudgeError.{JudgeError}
use Rattle.og_lsp_document.specs.declared.fault.JudgeError.TheVariants as judging
use Rattle.og_lsp_frame.specs.declared.fault.InputError.{InputError}
use Rattle.og_lsp_frame.specs.declared.fault.InputError.TheVariants as inputs
use Rattle.og_lsp_server.specs.declared.ended.SessionEnd.{SessionEnd}
use Rattle.og_lsp_server.specs.declared.ended.SessionEnd.TheVariants as ends

-- of an input that was not read: 1 for what the client sent, else 4
abbrev pub input_status : InputError → ℕ
input_status inputs.Memory = 4
input_status inputs.Failed = 4
input_status inputs.Unfinished = 1
input_status (inputs.Fault fault) = 1

-- 0 is for exit after shutdown alone
abbrev pub status_of : SessionEnd → ℕ
status_of (ends.Exited after_shutdown) = (if after_shutdown then 0 else 1)
status_of ends.InputEnded = 1
status_of (ends.Input error) = input_status error
status_of (ends.Output fault) = 4
status_of ends.Memory = 4
status_of ends.Spawn = 4

-- by an input that was not read
abbrev pub input_end : InputError → SessionEnd
input_end inputs.Memory = ends.Memory
input_end inputs.Failed = ends.Input inputs.Failed
input_end inputs.Unfinished = ends.Input inputs.Unfinished
input_end (inputs.Fault fault) = ends.Input (inputs.Fault fault)

-- by a text that was not judged
abbrev pub judge_end : JudgeError → SessionEnd
judge_end judging.Memory = ends.Memory
judge_end judging.Spawn = ends.Spawn

-- by a message that was not written
abbrev pub output_end : OutputFault → SessionEnd
output_end outputs.Memory = ends.Memory
output_end (outputs.NotWritten why) = ends.Output (outputs.NotWritten why)
