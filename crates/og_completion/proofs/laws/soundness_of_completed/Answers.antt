use Rattle.og_completion.proofs.Promises.{sound_still}
use Rattle.og_completion.proofs.Projected.{erased_sound}
use Rattle.og_completion.proofs.laws.soundness_of_completed.Goals as goal

pub returns-clause-outline : goal.returns-clause-outline
returns-clause-outline c new old completes rule old_rule = sound_still new old completes rule old_rule

pub returns-clause-program : goal.returns-clause-program
returns-clause-program c new old completes rule old_rule sound =
    erased_sound old old_rule (sound_still new old completes rule old_rule sound)
