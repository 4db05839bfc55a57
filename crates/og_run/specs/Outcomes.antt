-- What a run answers.
use Rattle.std.specs.Prelude.{◌≡◌, ℕ, Bool, true}
use Rattle.og_typed.specs.Truth.{truth}
use Rattle.og_run.specs.Runs.{Given}
use Rattle.og_run.specs.declared.outcome.Finish.TheVariants.{Finished, Stuck, Overflow}
use Rattle.og_run.specs.declared.outcome.Outcome.{Outcome}

-- an outcome of an outline that was proved: the postcondition is true at the end, nothing overflows, and nothing gets stuck where the last condition was proved too
pub record IsProvedOutcome (g : Given) (unblocked : Bool) (r : Outcome) : Type 0 where
  pub post_at_end : r.finish ≡ Finished → truth g.outline.post.assertion r.state ≡ true
  pub never_overflows : (p : ℕ) → r.finish ≡ Overflow p → ⊥
  pub never_stuck : unblocked ≡ true → r.finish ≡ Stuck → ⊥
