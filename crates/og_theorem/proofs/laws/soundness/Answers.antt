use Rattle.og_theorem.proofs.Sound.{sound}
use Rattle.og_theorem.proofs.laws.soundness.Goals as goal

pub returns : goal.returns
returns c = sound
