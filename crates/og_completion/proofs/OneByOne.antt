-- Lists and options that are related one by one.
use Rattle.std.proofs.Common.{◌≡◌, ℕ, zero, suc, List, [], ◌∷◌, ◌++◌, map, set, length, Bool, true, false, if◌then◌else◌, is_some, Some, None, Option, slice_get, option_map, refl, ap}
use Rattle.og_completion.specs.Completes.{OneByOne, InBoth}

module _ {X : Type 0} (R : X → X → Type 0) where
  pub each_append : (xs ys us vs : List X) → OneByOne R xs ys → OneByOne R us vs → OneByOne R (xs ++ us) (ys ++ vs)
  each_append [] [] us vs h k = k
  each_append (x ∷ xs) (y ∷ ys) us vs h k = (h.0, each_append xs ys us vs h.1 k)
  each_append _ _ us vs h k = absurd h

  pub each_length : (xs ys : List X) → OneByOne R xs ys → length xs ≡ length ys
  each_length [] [] h = refl
  each_length (x ∷ xs) (y ∷ ys) h = ap suc (each_length xs ys h.1)
  each_length _ _ h = absurd h

  pub each_set : (xs ys : List X) (i : ℕ) (x y : X) → OneByOne R xs ys → R x y → OneByOne R (set xs i x) (set ys i y)
  each_set [] [] i x y h r = tt
  each_set (u ∷ xs) (v ∷ ys) zero x y h r = (r, h.1)
  each_set (u ∷ xs) (v ∷ ys) (suc i) x y h r = (h.0, each_set xs ys i x y h.1 r)
  each_set _ _ i x y h r = absurd h

  pub each_get : (xs ys : List X) (i : ℕ) → OneByOne R xs ys → InBoth R (slice_get xs i) (slice_get ys i)
  each_get [] [] i h = tt
  each_get (x ∷ xs) (y ∷ ys) zero h = h.0
  each_get (x ∷ xs) (y ∷ ys) (suc i) h = each_get xs ys i h.1
  each_get _ _ i h = absurd h

  pub some_same : (a b : Option X) → InBoth R a b → is_some a ≡ is_some b
  some_same None None h = refl
  some_same (Some x) (Some y) h = refl
  some_same _ _ h = absurd h

  pub both_if : (t : Bool) (a b c d : Option X) → InBoth R a b → InBoth R c d → InBoth R (if t then a else c) (if t then b else d)
  both_if true a b c d h k = h
  both_if false a b c d h k = k

  pub each_if : (t : Bool) (a b c d : List X) → OneByOne R a b → OneByOne R c d → OneByOne R (if t then a else c) (if t then b else d)
  each_if true a b c d h k = h
  each_if false a b c d h k = k

module _ {X Y : Type 0} (R : X → X → Type 0) (S : Y → Y → Type 0) (f g : X → Y) (keeps : (x y : X) → R x y → S (f x) (g y)) where
  pub each_map : (xs ys : List X) → OneByOne R xs ys → OneByOne S (map f xs) (map g ys)
  each_map [] [] h = tt
  each_map (x ∷ xs) (y ∷ ys) h = (keeps x y h.0, each_map xs ys h.1)
  each_map _ _ h = absurd h

  pub both_map : (a b : Option X) → InBoth R a b → InBoth S (option_map f a) (option_map g b)
  both_map None None h = tt
  both_map (Some x) (Some y) h = keeps x y h
  both_map _ _ h = absurd h
