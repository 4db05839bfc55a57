-- Lists that agree place by place.
use Rattle.std.proofs.Common.{◌≡◌, List, [], ◌∷◌, ◌++◌, Result, Ok, Err, IfOk, OnOk, sym, subst}
use Rattle.std.specs.Result.{IsOk}
use Rattle.std.specs.List.{AllZip}
use Rattle.std.proofs.lemmas.Slice.Zip.{all_zipped_more}

pub AllZip-through : {A B C : Type 0} (R : A → B → Type 0) (S : B → C → Type 0) (T : A → C → Type 0) → ((x : A) (y : B) (z : C) → R x y → S y z → T x z)
    → (xs : List A) (ys : List B) (zs : List C) → AllZip R xs ys → AllZip S ys zs → AllZip T xs zs
AllZip-through R S T both [] [] [] f g = tt
AllZip-through R S T both [] [] (z ∷ zs) f g = absurd g
AllZip-through R S T both [] (y ∷ ys) zs f g = absurd f
AllZip-through R S T both (x ∷ xs) [] zs f g = absurd f
AllZip-through R S T both (x ∷ xs) (y ∷ ys) [] f g = absurd g
AllZip-through R S T both (x ∷ xs) (y ∷ ys) (z ∷ zs) f g = (both x y z f.0 g.0, AllZip-through R S T both xs ys zs f.1 g.1)

-- one place more, whose item came as `Ok`
pub one_more : {A B E : Type 0} (R : A → B → Type 0) (xs : List A) (ys zs : List B) (x : A) (r : Result B E) → AllZip R xs ys → IfOk r (R x)
    → (y : B) × (r ≡ Ok y) × (zs ≡ ys ++ y ∷ []) → AllZip R (xs ++ x ∷ []) zs
one_more R xs ys zs x r all is more =
    subst (AllZip R (xs ++ x ∷ [])) (sym more.2) (all_zipped_more R xs ys x more.0 all (subst (λ q. IfOk q (R x)) more.1 is))

pub one_more_if : {A B E : Type 0} (R : A → B → Type 0) (xs : List A) (ys zs : List B) (x : A) (r : Result B E) (before after : Result (Unit {0}) E) → IsOk before
    → OnOk before (AllZip R xs ys) → IfOk r (R x) → OnOk after ((y : B) × (r ≡ Ok y) × (zs ≡ ys ++ y ∷ [])) → OnOk after (AllZip R (xs ++ x ∷ []) zs)
one_more_if R xs ys zs x r (Ok _) (Ok _) ok all is more = one_more R xs ys zs x r all is more
one_more_if R xs ys zs x r (Ok _) (Err e) ok all is more = tt
one_more_if R xs ys zs x r (Err e) after ok all is more = absurd (cc)
