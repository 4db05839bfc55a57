use Rattle.og_parse.proofs.SameFronts.{front_alike}
use Rattle.og_parse.proofs.laws.alike.Goals as goal

pub returns : goal.returns
returns c = front_alike
