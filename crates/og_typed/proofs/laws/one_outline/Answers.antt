use Rattle.og_typed.proofs.OneOutline.{one_source}
use Rattle.og_typed.proofs.laws.one_outline.Goals as goal

pub returns : goal.returns
returns c = one_source
