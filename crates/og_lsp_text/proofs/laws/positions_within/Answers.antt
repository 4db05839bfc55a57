use Rattle.og_lsp_text.proofs.Back.{lines_grow}
use Rattle.og_lsp_text.proofs.laws.positions_within.Goals as goal

pub returns : goal.returns
returns c = lines_grow
