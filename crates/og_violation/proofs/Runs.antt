-- What every step keeps, every run keeps.
use Rattle.std.proofs.Common.{◌≡◌, ℕ, List, [], ◌∷◌, ◌++◌, Option, Some, None, IfSome, refl, sym, ap, ◌∙◌, subst}
use Rattle.std.proofs.lemmas.Option.{same_Some, none-some}
use Rattle.og_typed.specs.Syntax.{Program}
use Rattle.og_typed.specs.Machine.{Moment, next, run_on, start_of, IsReached}
use Rattle.og_typed.proofs.Turns.{IsShaped, shaped_start, shaped_next}

pub run_none : (ps : List ℕ) → run_on ps None ≡ None
run_none [] = refl
run_none (p ∷ ps) = refl

pub run_append : (ps qs : List ℕ) (a : Option Moment) → run_on (ps ++ qs) a ≡ run_on qs (run_on ps a)
run_append ps qs None = run_none (ps ++ qs) ∙ sym (ap (run_on qs) (run_none ps) ∙ run_none qs)
run_append [] qs (Some m) = refl
run_append (p ∷ ps) qs (Some m) = run_append ps qs (next m p)

module _ (P : Moment → Type 0) (keeps : (m : Moment) (p : ℕ) → P m → IfSome (next m p) P) where
  pub run_keeps : (ps : List ℕ) (a : Option Moment) (k : Moment) → IfSome a P → run_on ps a ≡ Some k → P k
  run_keeps ps None k h e = absurd (none-some k (sym (run_none ps) ∙ e))
  run_keeps [] (Some m) k h e = subst P (same_Some m k e) h
  run_keeps (p ∷ ps) (Some m) k h e = run_keeps ps (next m p) k (keeps m p h) e

pub reached_shaped : (o : Program) (m : Moment) → IsReached o m → IsShaped o m
reached_shaped o m r = run_keeps (IsShaped o) (shaped_next o) r.1 (Some (start_of o r.0)) m (shaped_start o r.0) r.3
