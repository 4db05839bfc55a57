use Rattle.og_command_infer.proofs.inferring.warranted.Goals as goal

pub returns : goal.returns
returns c = λ completes form report warrants.
    let new = c.args.new.now in
    let old = c.args.old.now in
    let one = c.follows_rule.ensures in
    let other = c.follows_rule-2.ensures in (
      λ safe. (
        c.soundness_of_completed.ensures.outline new old completes one other (warrants.0 safe).0,
        c.soundness_of_completed.ensures.program new old completes one other (warrants.0 safe).0,
      ),
      λ safe says. (
        c.progress_of_completed.ensures.outline new old completes one other (warrants.1 safe says).0,
        c.progress_of_completed.ensures.program new old completes one other (warrants.0 safe).0 (warrants.1 safe says).0,
      ),
    )
