-- What is made in an instance of a binder, with what is done with it.
use Rattle.std.proofs.Common.{◌≡◌, ℤ, List, [], Ok, Option, Some, None, sym, subst, ap, ◌∙◌}
use Rattle.og_template_expand.specs.declared.fault.Stop.{Stop}
use Rattle.og_template_expand.specs.Trees.{Binder}
use Rattle.og_template_expand.specs.Answer.{Checked, ◌>>=◌}
use Rattle.og_template_expand.specs.Scope.{Scope}
use Rattle.og_template_expand.specs.Scoped.{FailsAs}
use Rattle.og_template_expand.specs.Ranges.{entered, inside, instance_of}
use Rattle.og_template_expand.proofs.Lists.{fails_then}

pub entered_in : {Y Z : Type 0} (scope : Scope) (binder : Binder) (body : Scope → Checked (List Y)) (value : ℤ) (next : List Y → Checked Z) (total : Checked Z) (inner : Scope) → entered scope binder value ≡ Ok (Some inner) → (body inner >>= next) ≡ total → (instance_of scope binder body value >>= next) ≡ total
entered_in scope binder body value next total inner is made = ap (λ (e : Checked (Option Scope)). (e >>= inside body) >>= next) is ∙ made

pub passed_in : {Y Z : Type 0} (scope : Scope) (binder : Binder) (body : Scope → Checked (List Y)) (value : ℤ) (next : List Y → Checked Z) (total : Checked Z) → entered scope binder value ≡ Ok None → next [] ≡ total → (instance_of scope binder body value >>= next) ≡ total
passed_in scope binder body value next total is made = ap (λ (e : Checked (Option Scope)). (e >>= inside body) >>= next) is ∙ made

-- the test of an instance fails
pub enter_fails : {Y Z : Type 0} (scope : Scope) (binder : Binder) (body : Scope → Checked (List Y)) (value : ℤ) (next : List Y → Checked Z) (e : Stop) → FailsAs e (entered scope binder value) → FailsAs e (instance_of scope binder body value >>= next)
enter_fails scope binder body value next e fails = fails_then e (instance_of scope binder body value) next (fails_then e (entered scope binder value) (inside body) fails)

-- what is made in it fails
pub inside_fails : {Y Z : Type 0} (scope : Scope) (binder : Binder) (body : Scope → Checked (List Y)) (value : ℤ) (next : List Y → Checked Z) (e : Stop) (inner : Scope) → entered scope binder value ≡ Ok (Some inner) → FailsAs e (body inner >>= next) → FailsAs e (instance_of scope binder body value >>= next)
inside_fails scope binder body value next e inner is fails = subst (λ (x : Checked (Option Scope)). FailsAs e ((x >>= inside body) >>= next)) (sym is) fails
