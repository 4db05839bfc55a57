-- Checks that pass.
use Rattle.std.proofs.Common.{◌≡◌, Bool, true, false, cond, Option, Some, None, Result, Ok, Err, refl, ok_or}
use Rattle.og_cert.specs.declared.fault.FaultKind.{FaultKind}
use Rattle.og_cert.specs.Checks.{ok_then}
use Rattle.og_cert.specs.Closes.{passes}

-- both of two checks
pub then_ok : {A B : Type 0} (r : Result A FaultKind) (f : A → Result B FaultKind) (y : B) → ok_then r f ≡ Ok y → (x : A) × (r ≡ Ok x) × (f x ≡ Ok y)
then_ok (Ok x) f y e = (x, refl, e)
then_ok (Err k) f y e = absurd (cc)

pub some_from_or : {A : Type 0} (o : Option A) (k : FaultKind) (x : A) → ok_or o k ≡ Ok x → o ≡ Some x
some_from_or None k x e = absurd (cc)
some_from_or (Some y) k x e = cc

pub passed : {A : Type 0} (r : Result A FaultKind) (p : A → Bool) → passes r p ≡ true → (x : A) × (r ≡ Ok x) × (p x ≡ true)
passed (Ok x) p e = (x, refl, e)
passed (Err k) p e = absurd (cc)

pub ok_cond : {A : Type 0} (b : Bool) (x y : A) (k : FaultKind) → cond b (Ok x) (Err k) ≡ Ok y → (b ≡ true) × (x ≡ y)
ok_cond true x y k e = (refl, cc)
ok_cond false x y k e = absurd (cc)
