-- Sums over the ordered pairs of different members of a list, taken row by row or column by column.
use Rattle.std.proofs.Common.{◌≡◌, ℕ, ◌+◌, List, [], ◌∷◌, ◌++◌, length, refl, sym, ap, arith, length-append}
use Rattle.std.specs.Prelude.{flat_map}

abbrev pub total : {X : Type 0} → (X → ℕ) → List X → ℕ
total f [] = 0
total f (x ∷ xs) = f x + total f xs

pub total-append : {X : Type 0} (f : X → ℕ) (xs ys : List X) → total f (xs ++ ys) ≡ total f xs + total f ys
total-append f [] ys = omega arith
total-append f (x ∷ xs) ys = omega (arith, total-append f xs ys)

pub total-sum : {X : Type 0} (f g : X → ℕ) (xs : List X) → total (λ x. f x + g x) xs ≡ total f xs + total g xs
total-sum f g [] = omega arith
total-sum f g (x ∷ xs) = omega (arith, total-sum f g xs)

pub total-zero : {X : Type 0} (xs : List X) → total (λ _. 0) xs ≡ 0
total-zero [] = omega arith
total-zero (x ∷ xs) = omega (arith, total-zero xs)

module _ {X : Type 0} (m : X → X → ℕ) where
  -- from one member to several, and from several to one
  abbrev pub out : X → List X → ℕ
  out x ys = total (m x) ys

  abbrev pub into : List X → X → ℕ
  into xs y = total (λ x. m x y) xs

  -- each member, with the others
  abbrev pub by_rows : List X → List X → ℕ
  by_rows earlier [] = 0
  by_rows earlier (x ∷ later) = out x (earlier ++ later) + by_rows (earlier ++ x ∷ []) later

  abbrev pub by_columns : List X → List X → ℕ
  by_columns earlier [] = 0
  by_columns earlier (x ∷ later) = into (earlier ++ later) x + by_columns (earlier ++ x ∷ []) later

  abbrev pairs : List X → ℕ
  pairs [] = 0
  pairs (x ∷ xs) = out x xs + into xs x + pairs xs

  rows_pairs : (earlier later : List X) → by_rows earlier later ≡ total (λ x. out x earlier) later + pairs later
  rows_pairs earlier [] = omega arith
  rows_pairs earlier (x ∷ later) =
      let first = total-append (m x) earlier later in
      let more = rows_pairs (earlier ++ x ∷ []) later in
      let one = out_more earlier x later in
      omega (arith, first, more, one)
    where
      out_more : (earlier : List X) (x : X) (ys : List X) → total (λ y. out y (earlier ++ x ∷ [])) ys ≡ total (λ y. out y earlier) ys + into ys x
      out_more earlier x [] = omega arith
      out_more earlier x (y ∷ ys) = omega (arith, out_more earlier x ys, total-append (m y) earlier (x ∷ []))

  columns_pairs : (earlier later : List X) → by_columns earlier later ≡ total (into earlier) later + pairs later
  columns_pairs earlier [] = omega arith
  columns_pairs earlier (x ∷ later) =
      let first = total-append (λ y. m y x) earlier later in
      let more = columns_pairs (earlier ++ x ∷ []) later in
      let one = into_more earlier x later in
      omega (arith, first, more, one)
    where
      into_more : (earlier : List X) (x : X) (ys : List X) → total (into (earlier ++ x ∷ [])) ys ≡ total (into earlier) ys + out x ys
      into_more earlier x [] = omega arith
      into_more earlier x (y ∷ ys) = omega (arith, into_more earlier x ys, total-append (λ z. m z y) earlier (x ∷ []))

  pub exchange : (xs : List X) → by_rows [] xs ≡ by_columns [] xs
  exchange xs = omega (arith, rows_pairs [] xs, columns_pairs [] xs, total-zero xs)

-- the order of two sums does not matter
pub swap : {A B : Type 0} (f : A → B → ℕ) (us : List A) (vs : List B) → total (λ a. total (f a) vs) us ≡ total (λ b. total (λ a. f a b) us) vs
swap f [] vs = sym (total-zero vs)
swap f (a ∷ us) vs = omega (arith, swap f us vs, total-sum (f a) (λ b. total (λ x. f x b) us) vs)

pub total-same : {X : Type 0} (f g : X → ℕ) (xs : List X) → ((x : X) → f x ≡ g x) → total f xs ≡ total g xs
total-same f g xs same = ap (λ h. total h xs) (λ i x. same x i)

pub length-flat : {X Y : Type 0} (f : X → List Y) (xs : List X) → length (flat_map f xs) ≡ total (λ x. length (f x)) xs
length-flat f [] = refl
length-flat f (x ∷ xs) = omega (arith, length-append (f x) (flat_map f xs), length-flat f xs)
