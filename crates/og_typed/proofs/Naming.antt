-- Names and their numbers.
use Rattle.std.proofs.Common.{◌≡◌, ℕ, suc, ◌+◌, ◌<◌, List, [], ◌∷◌, ◌++◌, map, length, Bool, true, false, cond, Option, Some, None, Bor, refl, sym, ap, ap₂, ◌∙◌, arith}
use Rattle.std.specs.Prelude.{nat_lt, not, position, Ok, is_some, ◌||◌, ◌≤◌}
use Rattle.std.specs.Str.{bytes_eq}
use Rattle.std.specs.List.{position_or_len, prefix_len, list_any}
use Rattle.std.proofs.lemmas.Bool.{cond-true, cond-false, ltb-false, lt-ltb, both_ways}
use Rattle.std.proofs.lemmas.Option.{none-some}
use Rattle.indexmap.specs.IndexSet.{insert_key}
use Rattle.og_parse.specs.declared.raw.RawName.{RawName}
use Rattle.og_typed.specs.Resolved.{number_in, declared, declared_as}

prefix_len-map : {X Y : Type 0} (test : Y → Bool) (f : X → Y) (xs : List X) → prefix_len test (map f xs) ≡ prefix_len (λ x. test (f x)) xs
prefix_len-map test f [] = refl
prefix_len-map test f (x ∷ xs) = ap (λ n. cond (test (f x)) (1 + n) 0) (prefix_len-map test f xs)

length_same : {X Y : Type 0} (f : X → Y) (xs : List X) → length (map f xs) ≡ length xs
length_same f [] = refl
length_same f (x ∷ xs) = ap suc (length_same f xs)

pub position-map : {X Y : Type 0} (test : Y → Bool) (f : X → Y) (xs : List X) → position test (map f xs) ≡ position (λ x. test (f x)) xs
position-map test f xs =
    ap₂ (λ i n. cond (nat_lt i n) (Some i) None) (prefix_len-map (λ y. not (test y)) f xs) (length_same f xs)

none_before : (i n : ℕ) → cond (nat_lt i n) (Some i) None ≡ None → nat_lt i n ≡ false
none_before i n e = go (nat_lt i n) e
  where
    go : (b : Bool) → cond b (Some i) None ≡ None → b ≡ false
    go true h = absurd (none-some i (sym h))
    go false h = refl

no_test_passes : {X : Type 0} (test : X → Bool) (xs : List X) → length xs ≤ prefix_len (λ x. not (test x)) xs → list_any test xs ≡ false
no_test_passes test [] h = refl
no_test_passes test (x ∷ xs) h = go (no_test_passes test xs) (test x) h
  where
    go : (length xs ≤ prefix_len (λ y. not (test y)) xs → list_any test xs ≡ false) → (b : Bool) → suc (length xs) ≤ cond (not b) (1 + prefix_len (λ y. not (test y)) xs) 0 → (b || list_any test xs) ≡ false
    go rec true k = absurd (omega (arith, k))
    go rec false k = rec (omega (arith, k))

pub position-none : {X : Type 0} (test : X → Bool) (xs : List X) → position test xs ≡ None → list_any test xs ≡ false
position-none test xs e = no_test_passes test xs (ltb-false _ _ (none_before (position_or_len test xs) (length xs) e))

map-push : (keys : List (Bor (List ℕ))) (k : Bor (List ℕ)) → map (λ n. n.now) (keys ++ k ∷ []) ≡ map (λ n. n.now) keys ++ k.now ∷ []
map-push [] k = refl
map-push (x ∷ keys) k = ap (λ ns. x.now ∷ ns) (map-push keys k)

-- a name that has no number and finds room is the next one
pub declare_step : (keys new : List (Bor (List ℕ))) (k : Bor (List ℕ)) (name : RawName) (number : Option ℕ) → number ≡ number_in (map (λ n. n.now) keys) name.name → is_some number ≡ false → length (map (λ n. n.now) keys) < 256 → k.now ≡ name.name
    → new ≡ insert_key (λ a b. bytes_eq a.now b.now) keys k → declared (map (λ n. n.now) keys) name ≡ Ok (map (λ n. n.now) new)
declare_step keys new k name (Some x) e absent room same made = absurd (both_ways true absent refl)
declare_step keys new k name None e absent room same made =
    let names = map (λ (n : Bor (List ℕ)). n.now) keys in
    let free : list_any (λ n. bytes_eq k.now n.now) keys ≡ false =
    position-none (λ (n : Bor (List ℕ)). bytes_eq k.now n.now) keys
    (sym (position-map (bytes_eq k.now) (λ (n : Bor (List ℕ)). n.now) keys) ∙ ap (number_in names) same ∙ sym e) in
    ap (λ o. declared_as o names name) (sym e)
    ∙ cond-true (nat_lt (length names) 256) (Ok (names ++ name.name ∷ [])) _ (lt-ltb (length names) 256 room)
    ∙ ap Ok (ap (λ b. names ++ b ∷ []) (sym same) ∙ sym (map-push keys k) ∙ ap (map (λ n. n.now)) (sym (made ∙ cond-false (list_any (λ n. bytes_eq k.now n.now) keys) keys (keys ++ k ∷ []) free)))
