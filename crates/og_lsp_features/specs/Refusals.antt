-- Why a request has no result.
use Rattle.std.specs.Prelude.{Option, Some, None}
use Rattle.og_lsp_document.specs.declared.fault.JudgeError.{JudgeError}
use Rattle.og_lsp_document.specs.declared.fault.JudgeError.TheVariants as judging
use Rattle.og_lsp_message.specs.declared.code.ErrorCode.{ErrorCode}
use Rattle.og_lsp_features.specs.declared.refusal.Refusal.{Refusal}
use Rattle.og_lsp_features.specs.declared.refusal.Refusal.TheVariants as refusals

-- a text was not judged
abbrev pub judge_refusal : JudgeError → Refusal
judge_refusal judging.Memory = refusals.Memory
judge_refusal judging.Spawn = refusals.Spawn

-- the code that the client is told, where it is told one
abbrev pub code_of : Refusal → Option ErrorCode
code_of refusals.Memory = None
code_of refusals.Spawn = None
code_of (refusals.Refused code why) = Some code
