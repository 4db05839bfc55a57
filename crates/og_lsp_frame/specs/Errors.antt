-- Errors of reading.
use Rattle.og_lsp_frame.specs.declared.fault.FrameError.{FrameError}
use Rattle.og_lsp_frame.specs.declared.fault.FrameError.TheVariants as frame_errors
use Rattle.og_lsp_frame.specs.declared.fault.InputError.{InputError}
use Rattle.og_lsp_frame.specs.declared.fault.InputError.TheVariants as input_errors

-- the same error, of an input
abbrev pub input_error : FrameError → InputError
input_error frame_errors.Memory = input_errors.Memory
input_error (frame_errors.Fault fault) = input_errors.Fault fault
