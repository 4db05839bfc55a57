use Rattle.og_lsp_frame.proofs.Fronts.{is_message}
use Rattle.og_lsp_frame.proofs.laws.message_is.Goals as goal

pub returns : goal.returns
returns c = is_message
