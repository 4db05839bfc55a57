-- How far runs were followed, by whether something is wrong in them.
use Rattle.std.proofs.Common.{◌≡◌, ℕ, Bool, true, false, true≢false, Option, Some, None, length, refl, sym, subst, arith}
use Rattle.std.proofs.lemmas.Option.{none-some}
use Rattle.og_typed.specs.Syntax.{Program}
use Rattle.og_explore.specs.Safety.{IsSafety, IsSafeFrom}
use Rattle.og_explore.specs.declared.safety.Safety.TheVariants as safety
use Rattle.og_violation.specs.declared.violation.Violation.{Violation}
use Rattle.og_violation.specs.declared.violation.Wrong.{Wrong}
use Rattle.og_command_prove.specs.Found.{IsReach, IsWrongIn}
use Rattle.og_command_prove.specs.Moments.{lists_of, AreMoments}
use Rattle.og_command_prove.specs.declared.diagnoser.Moments.{Moments}

-- what is told: something wrong, and whether all runs were followed
pub record IsTold (o : Program) (m : Moments) (told : Option Wrong × Bool) : Type 0 where
  pub complete : told.1 ≡ true → m.reach.complete ≡ true
  pub wrong : IsWrongIn o (lists_of m) told.0
  pub safe : told.1 ≡ true → told.0 ≡ None → IsSafeFrom o (lists_of m)

pub if_violated : (o : Program) (m : Moments) (v : Violation) → IsSafety o (lists_of m) (safety.Violated v) → (told : Option Wrong × Bool) → told ≡ (Some v.wrong, m.reach.complete) → IsTold o m told
if_violated o m v h told is = subst (IsTold o m) (sym is) (record {
  complete = λ all. all;
  wrong = (v, h.0, h.1, refl);
  safe = λ all none. absurd (none-some v.wrong (sym none));
})

pub if_safe : (o : Program) (m : Moments) → IsSafety o (lists_of m) safety.Safe → (told : Option Wrong × Bool) → told ≡ (None, m.reach.complete) → IsTold o m told
if_safe o m h told is = subst (IsTold o m) (sym is) (record {
  complete = λ all. all;
  wrong = tt;
  safe = λ all none. h;
})

pub if_unknown : (o : Program) (m : Moments) (told : Option Wrong × Bool) → told ≡ (None, false) → IsTold o m told
if_unknown o m told is = subst (IsTold o m) (sym is) (record {
  complete = λ all. absurd (true≢false (sym all));
  wrong = tt;
  safe = λ all none. absurd (true≢false (sym all));
})

pub is_reach : (o : Program) (m : Moments) → AreMoments o m → (n : ℕ) → n ≡ length m.reach.moments.keys → (told : Option Wrong × Bool) → IsTold o m told
    → IsReach o (lists_of m) (record { starts = m.reach.starts; moments = n; complete = told.1; wrong = told.0 })
is_reach o m are n many told is = record {
  all = λ all. (_, many, are.all (is.complete all));
  few = omega (arith, are.few, many);
  wrong = is.wrong;
  safe = is.safe;
}
