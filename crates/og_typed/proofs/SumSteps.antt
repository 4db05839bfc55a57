-- The loop over the terms of a sum.
use Rattle.std.proofs.Common.{◌≡◌, ℕ, ℤ, List, [], ◌∷◌, sym, ap, ◌∙◌, subst}
use Rattle.std.specs.Prelude.{Result, Ok, Err, OnOk, IfErr, pos}
use Rattle.og_linear.specs.Linear.{FormValue}
use Rattle.og_linear.specs.Arith.{plus, scaled}
use Rattle.og_parse.specs.declared.raw.RawTerm.{RawTerm}
use Rattle.og_typed.specs.declared.fault.TypeError.{TypeError}
use Rattle.og_typed.specs.declared.fault.TypeError.TheVariants as errors
use Rattle.og_typed.specs.declared.fault.TypeFault.{TypeFault}
use Rattle.og_typed.specs.Answer.{FailsAs, IsResolved}
use Rattle.og_typed.specs.Resolved.{Checked, ◌>>=◌, Scope, Use, factor, signed, sum_from}

bind_on : {A B C : Type 0} (answer : Checked A) (f : A → B) (g : B → Checked C) (b : B) → answer >>= (λ a. Ok (f a)) ≡ Ok b → answer >>= (λ a. g (f a)) ≡ g b
bind_on (Ok a) f g b e = ap g (ok_same (f a) b e)
  where
    ok_same : {B : Type 0} (x y : B) → ◌≡◌ {A = Checked B} (Ok x) (Ok y) → x ≡ y
    ok_same x y e = cc
bind_on (Err fault) f g b e = absurd cc

bind_err : {A B C : Type 0} (answer : Checked A) (f : A → B) (g : B → Checked C) (fault : TypeFault) → answer >>= (λ a. Ok (f a)) ≡ Err fault → answer >>= (λ a. g (f a)) ≡ Err fault
bind_err (Ok a) f g fault e = absurd cc
bind_err (Err other) f g fault e = ap Err (err_same other fault e)
  where
    err_same : {B : Type 0} (x y : TypeFault) → ◌≡◌ {A = Checked B} (Err x) (Err y) → x ≡ y
    err_same x y e = cc

-- one term more
pub sum_step : (scope : Scope) (use_of : Use) (total new : FormValue) (term : RawTerm) (terms : List RawTerm) → sum_from scope use_of total (term ∷ []) ≡ Ok new → sum_from scope use_of total (term ∷ terms) ≡ sum_from scope use_of new terms
sum_step scope use_of total new term terms e =
    bind_on (factor scope use_of term.factor) (λ f. plus total (scaled (signed term.sign (pos f.0)) f.1)) (λ f. sum_from scope use_of f terms) new e

pub sum_fails : (scope : Scope) (use_of : Use) (total : FormValue) (fault : TypeFault) (term : RawTerm) (terms : List RawTerm) → sum_from scope use_of total (term ∷ []) ≡ Err fault → sum_from scope use_of total (term ∷ terms) ≡ Err fault
sum_fails scope use_of total fault term terms e =
    bind_err (factor scope use_of term.factor) (λ f. plus total (scaled (signed term.sign (pos f.0)) f.1)) (λ f. sum_from scope use_of f terms) fault e

-- a factor that is answered, added to a sum
pub term_added : {X : Type 0} (scope : Scope) (use_of : Use) (total new : FormValue) (term : RawTerm) (added : Result X TypeError) (f : ℕ × FormValue) (k : ℤ) → k ≡ signed term.sign (pos f.0) → factor scope use_of term.factor ≡ Ok f → OnOk added (new ≡ plus total (scaled k f.1)) → IfErr added (λ e. e ≡ errors.Memory) → IsResolved (λ _. new) added (sum_from scope use_of total (term ∷ []))
term_added scope use_of total new term (Ok _) f k same answer ok err =
    ap (λ a. a >>= (λ f. Ok (plus total (scaled (signed term.sign (pos f.0)) f.1)))) answer
    ∙ ap Ok (ap (λ k. plus total (scaled k f.1)) (sym same) ∙ sym ok)
term_added scope use_of total new term (Err e) f k same answer ok err =
    subst (λ e. FailsAs e (sum_from scope use_of total (term ∷ []))) (sym err) tt
