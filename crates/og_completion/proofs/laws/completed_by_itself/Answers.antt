use Rattle.og_completion.proofs.Reflexive.{completes_itself}
use Rattle.og_completion.proofs.laws.completed_by_itself.Goals as goal

pub returns : goal.returns
returns c = completes_itself
