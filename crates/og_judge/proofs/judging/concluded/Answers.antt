use Rattle.std.proofs.Common.{ap, sym, ◌∙◌}
use Rattle.og_cond.specs.Conditions.{safety_conditions, blocking_condition}
use Rattle.og_judge.specs.Entries.{is_safe, is_unblocked}
use Rattle.og_judge.proofs.Listing.{safe_is_valid, unblocked_is_valid}
use Rattle.og_judge.proofs.judging.concluded.Goals as goal

pub new-requires : goal.new-requires
new-requires c =
    let o = c.args.outline.now in
    let file = c.requires.0 in
    let faults = c.replay_laws.ensures.faults in
    let valid = c.replay_laws.ensures.valid in (
      (λ h. safe_is_valid faults valid 1 file (safety_conditions o) (blocking_condition o)
          (ap is_safe (sym c.requires.1) ∙ ap is_safe (sym c.deref.ensures.value) ∙ sym c.all_but_the_last-safe.ensures ∙ h)),
      (λ h. unblocked_is_valid faults valid 1 file (safety_conditions o) (blocking_condition o)
          (ap is_unblocked (sym c.requires.1) ∙ ap is_unblocked (sym c.deref-2.ensures.value) ∙ sym c.the_last-unblocked.ensures ∙ h)),
    )
