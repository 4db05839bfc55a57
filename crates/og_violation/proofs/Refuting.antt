-- A violation is against what the conditions promise.
use Rattle.std.proofs.Common.{◌≡◌, ℕ, ℤ, List, refl, subst}
use Rattle.std.proofs.lemmas.Bool.{both_ways}
use Rattle.og_typed.specs.Syntax.{Program}
use Rattle.og_typed.specs.Truth.{truth}
use Rattle.og_typed.specs.Machine.{Moment, IsReached, current, overflows}
use Rattle.og_theorem.specs.Sound.{IsSound}
use Rattle.og_theorem.specs.Proved.{IsSafe, IsUnblocked}
use Rattle.og_theorem.proofs.Sound.{sound}
use Rattle.og_theorem.proofs.Stuck.{never_stuck}
use Rattle.og_violation.specs.Violations.{IsWrongAt, IsWrong}
use Rattle.og_violation.specs.declared.violation.Wrong.{Wrong}
use Rattle.og_violation.specs.declared.violation.Wrong.TheVariants.{Assertion, Overflow, Post, Stuck}

pub wrong_reached : (o : Program) (values : List ℤ) (history : List ℕ) (wrong : Wrong) (is : IsWrong o values history wrong) → IsReached o is.last
wrong_reached o values history wrong is = (values, history, is.begins, is.leads)

against : (o : Program) (m : Moment) (wrong : Wrong) → IsSound o → IsReached o m → IsWrongAt o m wrong → (wrong ≡ Stuck → ⊥) → ⊥
against o m (Assertion p) s r h other = both_ways (truth (current o m p) m.state) h.1 (s.current_holds m r p h.0)
against o m (Overflow p) s r h other = both_ways (overflows m p) (s.never_overflows m r p h.0) h.1
against o m Post s r h other = both_ways (truth o.post.assertion m.state) h.1 (s.post_at_end m r h.0)
against o m Stuck s r h other = other refl

pub refutes_safety : (o : Program) (values : List ℤ) (history : List ℕ) (wrong : Wrong) → IsWrong o values history wrong → (wrong ≡ Stuck → ⊥) → IsSafe o → ⊥
refutes_safety o values history wrong is other safe = against o is.last wrong (sound o safe) (wrong_reached o values history wrong is) is.there other

pub refutes_progress : (o : Program) (values : List ℤ) (history : List ℕ) (wrong : Wrong) → IsWrong o values history wrong → wrong ≡ Stuck → IsSafe o → IsUnblocked o → ⊥
refutes_progress o values history wrong is stuck safe unblocked =
    never_stuck o safe unblocked is.last (wrong_reached o values history wrong is) (subst (λ w. IsWrongAt o is.last w) stuck is.there)
