-- The parts of the list of conditions, put together.
use Rattle.std.proofs.Common.{◌≡◌, ℕ, List, ◌∷◌, ◌++◌, length, Result, Ok, Err, OnOk, sym, ap, ◌∙◌, append_assoc, subst, ◌≤◌, Vec, Global}
use Rattle.og_cond.specs.Condition.{Condition}
use Rattle.og_cond.specs.Answer.{IsListed}
use Rattle.og_cond.specs.declared.condition.Condition.{Condition as Listed}
use Rattle.og_cond.specs.declared.fault.ConditionsError.{ConditionsError}
use Rattle.og_cond.specs.declared.fault.ConditionsError.TheVariants as errors

pub on_ok : {T E : Type 0} (P Q : Type 0) (r : Result T E) → (P → Q) → OnOk r P → OnOk r Q
on_ok P Q (Ok x) f h = f h
on_ok P Q (Err e) f h = tt

-- the first, interference and the last
pub joined : (l₀ l₁ l₂ l₃ p s l i f b : List Condition) (e : Condition) →
    l₁ ≡ l₀ ++ (p ++ (s ++ l)) → l₂ ≡ l₁ ++ i → l₃ ≡ l₂ ++ e ∷ (f ++ b) →
    l₃ ≡ l₀ ++ ((p ++ (s ++ (l ++ (i ++ e ∷ f)))) ++ b)
joined l₀ l₁ l₂ l₃ p s l i f b e q r t = t ∙ ap (λ x. x ++ e ∷ (f ++ b)) (r ∙ ap (λ x. x ++ i) q) ∙ simp append_assoc

pub memory_listed : (limit : ℕ) (all : List Condition) (r : Result (Vec Listed Global) ConditionsError) (e : ConditionsError) → r ≡ Err e → e ≡ errors.Memory → length all ≤ limit → IsListed limit all r
memory_listed limit all r e is memory few = subst (IsListed limit all) (sym (is ∙ ap Err memory)) few
