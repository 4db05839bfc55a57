-- Lists of which each element stands before all behind it.
use Rattle.std.proofs.Common.{◌≡◌, List, [], ◌∷◌, ◌++◌, Bool, true, false, cond, refl, arith}
use Rattle.std.specs.Prelude.{filter, AllPairs, ⊤}
use Rattle.std.specs.List.{AllByRecursion}
use Rattle.std.proofs.lemmas.List.Elements.{All-from_recursion}
use Rattle.std.proofs.lemmas.List.Kept.{AllPairs-cons}

abbrev pub Ordered : {A : Type 0} → (A → A → Type 0) → List A → Type 0
Ordered R [] = ⊤
Ordered R (x ∷ xs) = AllByRecursion (R x) xs × Ordered R xs

pub all_pairs : {A : Type 0} (R : A → A → Type 0) (xs : List A) → Ordered R xs → AllPairs R xs
all_pairs R [] h = λ i j d p q. absurd (omega (arith, q))
all_pairs R (x ∷ xs) h = AllPairs-cons R x xs (All-from_recursion (R x) xs h.0) (all_pairs R xs h.1)

-- ---- all of a list

pub all_weaker : {A : Type 0} (P Q : A → Type 0) → ((x : A) → P x → Q x) → (xs : List A) → AllByRecursion P xs → AllByRecursion Q xs
all_weaker P Q f [] h = tt
all_weaker P Q f (x ∷ xs) h = (f x h.0, all_weaker P Q f xs h.1)

pub all_both : {A : Type 0} (P Q S : A → Type 0) → ((x : A) → P x → Q x → S x) → (xs : List A) → AllByRecursion P xs → AllByRecursion Q xs → AllByRecursion S xs
all_both P Q S f [] p q = tt
all_both P Q S f (x ∷ xs) p q = (f x p.0 q.0, all_both P Q S f xs p.1 q.1)

pub all_joined : {A : Type 0} (P : A → Type 0) (xs ys : List A) → AllByRecursion P xs → AllByRecursion P ys → AllByRecursion P (xs ++ ys)
all_joined P [] ys p q = q
all_joined P (x ∷ xs) ys p q = (p.0, all_joined P xs ys p.1 q)

all_filtered : {A : Type 0} (P : A → Type 0) (is : A → Bool) (xs : List A) → AllByRecursion P xs → AllByRecursion P (filter is xs)
all_filtered P is [] h = tt
all_filtered P is (x ∷ xs) h = go (is x) (all_filtered P is xs h.1)
  where
    go : (b : Bool) → AllByRecursion P (filter is xs) → AllByRecursion P (cond b (x ∷ filter is xs) (filter is xs))
    go true others = (h.0, others)
    go false others = others

pub all_passing : {A : Type 0} (is : A → Bool) (xs : List A) → AllByRecursion (λ x. is x ≡ true) (filter is xs)
all_passing is [] = tt
all_passing is (x ∷ xs) = go (is x) refl (all_passing is xs)
  where
    go : (b : Bool) → is x ≡ b → AllByRecursion (λ y. is y ≡ true) (filter is xs) → AllByRecursion (λ y. is y ≡ true) (cond b (x ∷ filter is xs) (filter is xs))
    go true e others = (e, others)
    go false e others = others

-- ---- order

pub ordered_filtered : {A : Type 0} (R : A → A → Type 0) (is : A → Bool) (xs : List A) → Ordered R xs → Ordered R (filter is xs)
ordered_filtered R is [] h = tt
ordered_filtered R is (x ∷ xs) h = go (is x) (ordered_filtered R is xs h.1)
  where
    go : (b : Bool) → Ordered R (filter is xs) → Ordered R (cond b (x ∷ filter is xs) (filter is xs))
    go true others = (all_filtered (R x) is xs h.0, others)
    go false others = others

pub ordered_joined : {A : Type 0} (R : A → A → Type 0) (xs ys : List A) → Ordered R xs → Ordered R ys → AllByRecursion (λ x. AllByRecursion (R x) ys) xs → Ordered R (xs ++ ys)
ordered_joined R [] ys p q r = q
ordered_joined R (x ∷ xs) ys p q r = (all_joined (R x) xs ys p.0 r.0, ordered_joined R xs ys p.1 q r.1)

all_without : {A : Type 0} (P : A → Type 0) (xs : List A) (y : A) (ys : List A) → AllByRecursion P (xs ++ y ∷ ys) → AllByRecursion P (xs ++ ys)
all_without P [] y ys h = h.1
all_without P (x ∷ xs) y ys h = (h.0, all_without P xs y ys h.1)

-- one left out
pub ordered_without : {A : Type 0} (R : A → A → Type 0) (xs : List A) (y : A) (ys : List A) → Ordered R (xs ++ y ∷ ys) → Ordered R (xs ++ ys)
ordered_without R [] y ys h = h.1
ordered_without R (x ∷ xs) y ys h = (all_without (R x) xs y ys h.0, ordered_without R xs y ys h.1)
