-- Histories that grow, and how often a process stands in one.
use Rattle.std.proofs.Common.{◌≡◌, ℕ, ◌+◌, ◌≤◌, List, [], ◌∷◌, ◌++◌, length, Option, Some, None, refl, sym, ap, ◌∙◌, subst, arith}
use Rattle.std.proofs.lemmas.Bool.Decides.{nat_tests}
use Rattle.std.proofs.lemmas.Option.{same_Some, none-some}
use Rattle.std.specs.Prelude.{IfSome}
use Rattle.og_typed.specs.Syntax.{Program}
use Rattle.og_typed.specs.Machine.{Moment, next, run_on, start_of}
use Rattle.og_typed.proofs.Turns.{IsShaped, shaped_start, shaped_next}
use Rattle.og_run.specs.Runs.{Given, moment_after}
use Rattle.og_run.specs.Histories.{moves_of}

pub moves_append : (p : ℕ) (xs ys : List ℕ) → moves_of p (xs ++ ys) ≡ moves_of p xs + moves_of p ys
moves_append p [] ys = omega arith
moves_append p (x ∷ xs) ys = omega (arith, moves_append p xs ys)

pub moves_least : (p : ℕ) (xs : List ℕ) → moves_of p xs ≤ length xs
moves_least p [] = omega arith
moves_least p (x ∷ xs) = let h = moves_least p xs in grind (arith, nat_tests)

pub run_append : (xs ys : List ℕ) (o : Option Moment) → run_on (xs ++ ys) o ≡ run_on ys (run_on xs o)
run_append xs ys None = sym (none ys)
  where
    none : (ys : List ℕ) → run_on ys None ≡ None
    none [] = refl
    none (y ∷ ys) = refl
run_append [] ys (Some m) = refl
run_append (x ∷ xs) ys (Some m) = run_append xs ys (next m x)

pub run_none : (xs : List ℕ) → run_on xs None ≡ None
run_none [] = refl
run_none (x ∷ xs) = refl

-- a step more
pub leads_more : (g : Given) (h : List ℕ) (p : ℕ) (m k : Moment) → moment_after g h ≡ Some m → next m p ≡ Some k → moment_after g (h ++ p ∷ []) ≡ Some k
leads_more g h p m k e f =
    run_append h (p ∷ []) (Some (start_of g.outline g.values)) ∙ (ap (run_on (p ∷ [])) e ∙ ap (run_on []) f)

-- each moment of a run has one rest for each process, and none of an absent part of the main process
shaped_run : (o : Program) (xs : List ℕ) (a : Option Moment) (k : Moment) → IfSome a (IsShaped o) → run_on xs a ≡ Some k → IsShaped o k
shaped_run o xs None k s e = absurd (none-some k (sym (run_none xs) ∙ e))
shaped_run o [] (Some m) k s e = subst (IsShaped o) (same_Some m k e) s
shaped_run o (x ∷ xs) (Some m) k s e = shaped_run o xs (next m x) k (shaped_next o m x s) e

pub shaped_after : (g : Given) (h : List ℕ) (m : Moment) → moment_after g h ≡ Some m → IsShaped g.outline m
shaped_after g h m e = shaped_run g.outline h (Some (start_of g.outline g.values)) m (shaped_start g.outline g.values) e
