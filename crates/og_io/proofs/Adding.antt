-- Numbers with a comma between two, one after another.
use Rattle.std.proofs.Common.{◌≡◌, ◌∙◌, ◌<◌, ◌++◌, ◌∷◌, [], ℕ, List, length, ap, sym, subst, refl, arith, append_assoc}
use Rattle.std.specs.List.{position_or_len, before_first, after_first}
use Rattle.og_io.specs.Numbers.{is_comma, IsNumber, AreNumbers}

-- a number before a comma, and those after it
one_more : (word : List ℕ) (n : ℕ) (ns : List ℕ) → position_or_len is_comma word < length word → IsNumber (before_first is_comma word) n
    → AreNumbers (after_first is_comma word) ns → AreNumbers word (n ∷ ns)
one_more word n [] comma first rest = absurd rest
one_more word n (m ∷ ns) comma first rest = (comma, first, rest)

same_number : (text : List ℕ) (n m : ℕ) → IsNumber text n → IsNumber text m → n ≡ m
same_number text n m a b = a.value ∙ sym b.value

-- the part before the first comma is the first number
parted : (word : List ℕ) (all : List ℕ) → position_or_len is_comma word < length word → AreNumbers word all
    → (n : ℕ) × (ns : List ℕ) × (all ≡ n ∷ ns) × IsNumber (before_first is_comma word) n × AreNumbers (after_first is_comma word) ns
parted word [] comma are = absurd are
parted word (n ∷ []) comma are = let none = are.0 in absurd (omega (arith, comma, none))
parted word (n ∷ m ∷ ns) comma are = (n, m ∷ ns, refl, are.1, are.2)

-- without a comma there is one
alone : (word : List ℕ) (all : List ℕ) → position_or_len is_comma word ≡ length word → AreNumbers word all → (n : ℕ) × (all ≡ n ∷ []) × IsNumber word n
alone word [] none are = absurd are
alone word (n ∷ []) none are = (n, refl, are.1)
alone word (n ∷ m ∷ ns) none are = let comma = are.0 in absurd (omega (arith, comma, none))

-- ---- a step of the loop

pub added : (word rest steps : List ℕ) (n : ℕ) → position_or_len is_comma rest < length rest → IsNumber (before_first is_comma rest) n
    → ((tail : List ℕ) → AreNumbers rest tail → AreNumbers word (steps ++ tail))
    → (tail : List ℕ) → AreNumbers (after_first is_comma rest) tail → AreNumbers word ((steps ++ n ∷ []) ++ tail)
added word rest steps n comma first made tail are =
    subst (AreNumbers word) (sym (append_assoc steps (n ∷ []) tail)) (made (n ∷ tail) (one_more rest n tail comma first are))

pub only_added : (word rest steps : List ℕ) (n : ℕ) → position_or_len is_comma rest < length rest → IsNumber (before_first is_comma rest) n
    → ((all : List ℕ) → AreNumbers word all → (tail : List ℕ) × (all ≡ steps ++ tail) × AreNumbers rest tail)
    → (all : List ℕ) → AreNumbers word all → (tail : List ℕ) × (all ≡ (steps ++ n ∷ []) ++ tail) × AreNumbers (after_first is_comma rest) tail
only_added word rest steps n comma first only all are =
    let o = only all are in
    let p = parted rest o.0 comma o.2 in
    let same : p.0 ≡ n = same_number (before_first is_comma rest) p.0 n p.3 first in
    (p.1, o.1 ∙ (ap (λ (l : List ℕ). steps ++ l) (p.2 ∙ ap (λ (k : ℕ). k ∷ p.1) same) ∙ sym (append_assoc steps (n ∷ []) p.1)), p.4)

-- a piece that is no number
pub no_first : (word rest steps : List ℕ) → position_or_len is_comma rest < length rest → ((n : ℕ) → IsNumber (before_first is_comma rest) n → ⊥)
    → ((all : List ℕ) → AreNumbers word all → (tail : List ℕ) × (all ≡ steps ++ tail) × AreNumbers rest tail) → (all : List ℕ) → AreNumbers word all → ⊥
no_first word rest steps comma none only all are = let o = only all are in let p = parted rest o.0 comma o.2 in none p.0 p.3

pub no_last : (word rest steps : List ℕ) → position_or_len is_comma rest ≡ length rest → ((n : ℕ) → IsNumber rest n → ⊥)
    → ((all : List ℕ) → AreNumbers word all → (tail : List ℕ) × (all ≡ steps ++ tail) × AreNumbers rest tail) → (all : List ℕ) → AreNumbers word all → ⊥
no_last word rest steps comma none only all are = let o = only all are in let p = alone rest o.0 comma o.2 in none p.0 p.2

-- the last number
pub last_added : (word rest steps : List ℕ) (n : ℕ) → position_or_len is_comma rest ≡ length rest → IsNumber rest n
    → ((tail : List ℕ) → AreNumbers rest tail → AreNumbers word (steps ++ tail)) → AreNumbers word (steps ++ n ∷ [])
last_added word rest steps n comma last made = made (n ∷ []) (comma, last)

pub only_last : (word rest steps : List ℕ) (n : ℕ) → position_or_len is_comma rest ≡ length rest → IsNumber rest n
    → ((all : List ℕ) → AreNumbers word all → (tail : List ℕ) × (all ≡ steps ++ tail) × AreNumbers rest tail)
    → (all : List ℕ) → AreNumbers word all → all ≡ steps ++ n ∷ []
only_last word rest steps n comma last only all are =
    let o = only all are in
    let p = alone rest o.0 comma o.2 in
    let same : p.0 ≡ n = same_number rest p.0 n p.2 last in
    o.1 ∙ ap (λ (l : List ℕ). steps ++ l) (p.1 ∙ ap (λ (k : ℕ). k ∷ []) same)
