-- What a proved outline promises of an outcome.
use Rattle.std.proofs.Common.{◌≡◌, Bool, true, ap, ◌∙◌, subst}
use Rattle.std.proofs.lemmas.Bool.{both_ways}
use Rattle.og_typed.specs.Truth.{truth}
use Rattle.og_typed.specs.Machine.{overflows}
use Rattle.og_theorem.specs.Sound.{IsSound}
use Rattle.og_theorem.specs.NeverStuck.{IsNeverStuck}
use Rattle.og_run.specs.Runs.{Given}
use Rattle.og_run.specs.Ends.{IsFinish, IsOutcome}
use Rattle.og_run.specs.declared.outcome.Outcome.{Outcome}
use Rattle.og_run.proofs.Ends.{reached_run}
use Rattle.og_run.specs.Outcomes.{IsProvedOutcome}

pub proved_outcome : (g : Given) (unblocked : Bool) (r : Outcome) → IsSound g.outline → (unblocked ≡ true → IsNeverStuck g.outline) → IsOutcome g r → IsProvedOutcome g unblocked r
proved_outcome g unblocked r sound free is =
    let reached = reached_run g r.history.items is.last is.begins is.leads in record {
      post_at_end = λ e. ap (truth g.outline.post.assertion) is.state ∙ sound.post_at_end is.last reached (subst (IsFinish g r.history.items is.last) e is.finish);
      never_overflows = λ p e. let f = subst (IsFinish g r.history.items is.last) e is.finish in both_ways (overflows is.last p) (sound.never_overflows is.last reached p f.3) f.4;
      never_stuck = λ u e. free u is.last reached (subst (IsFinish g r.history.items is.last) e is.finish);
    }
