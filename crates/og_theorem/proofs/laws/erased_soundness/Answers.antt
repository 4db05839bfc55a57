use Rattle.og_theorem.proofs.Erased.{erased_sound}
use Rattle.og_theorem.proofs.laws.erased_soundness.Goals as goal

pub returns : goal.returns
returns c o rule valid = erased_sound o valid rule
