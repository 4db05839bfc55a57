-- The promise of every run of an outline, and the conditions on which it rests.
use Rattle.std.specs.Prelude.{◌≡◌, ℕ, true, false}
use Rattle.og_typed.specs.Syntax.{Program}
use Rattle.og_typed.specs.Truth.{truth}
use Rattle.og_typed.specs.Machine.{Moment, IsReached, active, current, overflows, is_finished}
use Rattle.og_typed.specs.Erase.{erased, project}

-- ---- the promise

-- at every moment that some run of the outline reaches
pub record IsSound (o : Program) : Type 0 where
  -- the current assertion of each active process is true
  pub current_holds : (m : Moment) → IsReached o m → (p : ℕ) → active o m p ≡ true → truth (current o m p) m.state ≡ true
  -- no active process overflows
  pub never_overflows : (m : Moment) → IsReached o m → (p : ℕ) → active o m p ≡ true → overflows m p ≡ false
  -- where all have ended, the postcondition is true
  pub post_at_end : (m : Moment) → IsReached o m → is_finished m ≡ true → truth o.post.assertion m.state ≡ true

-- at every moment that some run of the erased program reaches
pub record IsSoundErased (o : Program) : Type 0 where
  -- it is what the projection leaves of some moment that the outline reaches
  pub projected : (e : Moment) → IsReached (erased o) e → (m : Moment) × IsReached o m × (project o.vars m ≡ e)
  -- no active process overflows
  pub never_overflows : (e : Moment) → IsReached (erased o) e → (p : ℕ) → active (erased o) e p ≡ true → overflows e p ≡ false
  -- where all have ended, the postcondition is true
  pub post_at_end : (e : Moment) → IsReached (erased o) e → is_finished e ≡ true → truth o.post.assertion e.state ≡ true
