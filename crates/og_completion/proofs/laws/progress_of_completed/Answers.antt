use Rattle.og_completion.proofs.Promises.{sound_still, never_stuck_still}
use Rattle.og_completion.proofs.Projected.{erased_never_stuck}
use Rattle.og_completion.proofs.laws.progress_of_completed.Goals as goal

pub returns-clause-outline : goal.returns-clause-outline
returns-clause-outline c new old completes rule old_rule = never_stuck_still new old completes rule old_rule

pub returns-clause-program : goal.returns-clause-program
returns-clause-program c new old completes rule old_rule sound never =
    erased_never_stuck old old_rule (sound_still new old completes rule old_rule sound) (never_stuck_still new old completes rule old_rule never)
