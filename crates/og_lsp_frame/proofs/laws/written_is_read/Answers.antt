use Rattle.og_lsp_frame.proofs.Written.{written_again}
use Rattle.og_lsp_frame.proofs.laws.written_is_read.Goals as goal

pub returns : goal.returns
returns c = written_again
