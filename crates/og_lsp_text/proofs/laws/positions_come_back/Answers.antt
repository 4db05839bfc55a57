use Rattle.og_lsp_text.proofs.Back.{comes_back}
use Rattle.og_lsp_text.proofs.laws.positions_come_back.Goals as goal

pub returns : goal.returns
returns c = comes_back
