-- Of the conditions with keys each is told once: by itself, or with an earlier one.
use Rattle.std.proofs.Common.{◌≡◌, ℕ, ◌+◌, ◌-◌, List, [], ◌∷◌, ◌++◌, length, map, Bool, true, false, true≢false, not, ◌||◌, cond, Option, Some, None, Vec, refl, sym, ap, ap₂, ◌∙◌, append_assoc, arith}
use Rattle.std.specs.Prelude.{count_by}
use Rattle.std.specs.Global.{Global}
use Rattle.std.specs.List.{list_any, sum_by}
use Rattle.std.specs.Str.{bytes_eq}
use Rattle.std.specs.Cmp.Lexicographic.{bytes_decides, nat_list_eq_equiv}
use Rattle.std.proofs.lemmas.List.{length-map}
use Rattle.std.proofs.lemmas.List.Folds.{list_any-append}
use Rattle.std.proofs.lemmas.List.Sums.{sum_by-append, sum_by-cons}
use Rattle.og_report_prove.specs.Together.{has_key, key_seen, told, repeats_from, repeats}

-- ---- counting

abbrev one_if : Bool → ℕ
one_if b = cond b 1 0

same_count : (p q : Option (List ℕ) → Bool) → ((x : Option (List ℕ)) → p x ≡ q x) → (xs : List (Option (List ℕ))) → count_by p xs ≡ count_by q xs
same_count p q h [] = refl
same_count p q h (x ∷ xs) =
    sum_by-cons (λ y. one_if (p y)) x xs ∙ ap₂ (λ (b : Bool) (n : ℕ). one_if b + n) (h x) (same_count p q h xs) ∙ sym (sum_by-cons (λ y. one_if (q y)) x xs)

add_count : (p q r : Option (List ℕ) → Bool) → ((x : Option (List ℕ)) → one_if (p x) ≡ one_if (q x) + one_if (r x)) → (xs : List (Option (List ℕ))) → count_by p xs ≡ count_by q xs + count_by r xs
add_count p q r h [] = refl
add_count p q r h (x ∷ xs) =
    let rest = add_count p q r h xs in
    let one = sum_by-cons (λ y. one_if (p y)) x xs in
    let two = sum_by-cons (λ y. one_if (q y)) x xs in
    let three = sum_by-cons (λ y. one_if (r y)) x xs in
    let here = h x in
    omega (arith, rest, one, two, three, here)

left_false : (a b : Bool) → (a || b) ≡ false → a ≡ false
left_false true b e = e
left_false false b e = refl

right_false : (a b : Bool) → (a || b) ≡ false → b ≡ false
right_false true b e = absurd (true≢false e)
right_false false b e = e

none_counted : (p : Option (List ℕ) → Bool) (xs : List (Option (List ℕ))) → list_any p xs ≡ false → count_by p xs ≡ 0
none_counted p [] e = refl
none_counted p (x ∷ xs) e =
    let rest = none_counted p xs (right_false (p x) (list_any p xs) e) in
    let all = sum_by-cons (λ y. one_if (p y)) x xs in
    let here : one_if (p x) ≡ 0 = ap (λ (b : Bool). one_if b) (left_false (p x) (list_any p xs) e) in
    omega (arith, rest, all, here)

-- ---- which keys are new

-- not among these, or no key
abbrev is_new : List (Option (List ℕ)) → Option (List ℕ) → Bool
is_new before None = true
is_new before (Some key) = not (list_any (has_key key) before)

or_neither : (b : Bool) → (b || (false || false)) ≡ b
or_neither true = refl
or_neither false = refl

or_old : (a b : Bool) → (b ≡ true → a ≡ true) → (a || (b || false)) ≡ a
or_old true b h = refl
or_old false true h = sym (h refl)
or_old false false h = refl

or_new : (a b : Bool) → (b ≡ true → a ≡ false) → one_if (not a) ≡ one_if (not (a || (b || false))) + one_if b
or_new true true h = absurd (true≢false (h refl))
or_new true false h = refl
or_new false true h = refl
or_new false false h = refl

after_none : (before : List (Option (List ℕ))) (x : Option (List ℕ)) → is_new (before ++ None ∷ []) x ≡ is_new before x
after_none before None = refl
after_none before (Some t) = ap not (list_any-append (has_key t) before (None ∷ []) ∙ or_neither (list_any (has_key t) before))

-- the same key is among them exactly where this one is
among : (before : List (Option (List ℕ))) (key t : List ℕ) (b : Bool) → list_any (has_key key) before ≡ b → bytes_eq t key ≡ true → list_any (has_key t) before ≡ b
among before key t b is e = ap (λ (u : List ℕ). list_any (has_key u) before) ((bytes_decides t key).0 e) ∙ is

after_old : (before : List (Option (List ℕ))) (key : List ℕ) → list_any (has_key key) before ≡ true → (x : Option (List ℕ)) → is_new (before ++ Some key ∷ []) x ≡ is_new before x
after_old before key is None = refl
after_old before key is (Some t) =
    ap not (list_any-append (has_key t) before (Some key ∷ []) ∙ or_old (list_any (has_key t) before) (bytes_eq t key) (among before key t true is))

after_new : (before : List (Option (List ℕ))) (key : List ℕ) → list_any (has_key key) before ≡ false → (x : Option (List ℕ))
    → one_if (is_new before x) ≡ one_if (is_new (before ++ Some key ∷ []) x) + one_if (has_key key x)
after_new before key is None = refl
after_new before key is (Some t) =
    or_new (list_any (has_key t) before) (bytes_eq t key) (among before key t false is)
    ∙ ap₂ (λ (a b : Bool). one_if (not a) + one_if b) (sym (list_any-append (has_key t) before (Some key ∷ []))) (nat_list_eq_equiv.symm t key)

-- how often a new key occurs among all, if it stands behind these
occurs : (all before ks : List (Option (List ℕ))) (key : List ℕ) → all ≡ before ++ Some key ∷ ks → list_any (has_key key) before ≡ false → count_by (has_key key) all ≡ count_by (has_key key) ks + 1
occurs all before ks key is none =
    let whole = ap (count_by (has_key key)) is in
    let parts = sum_by-append (λ y. one_if (has_key key y)) before (Some key ∷ ks) in
    let first = sum_by-cons (λ y. one_if (has_key key y)) (Some key) ks in
    let zero = none_counted (has_key key) before none in
    let here : one_if (has_key key (Some key)) ≡ 1 = ap (λ (b : Bool). one_if b) (nat_list_eq_equiv.refl key) in
    omega (arith, whole, parts, first, zero, here)

-- ---- how many are told

told_key : (all before ks : List (Option (List ℕ))) (key : List ℕ) → all ≡ before ++ Some key ∷ ks
    → sum_by told (repeats_from all (before ++ Some key ∷ []) ks) ≡ count_by (is_new (before ++ Some key ∷ [])) ks
    → sum_by told (repeats_from all before (Some key ∷ ks)) ≡ count_by (is_new before) (Some key ∷ ks)
told_key all before ks key is rest = from (list_any (has_key key) before) refl
  where
    other : count_by (is_new before) (Some key ∷ ks) ≡ one_if (not (list_any (has_key key) before)) + count_by (is_new before) ks
    other = sum_by-cons (λ y. one_if (is_new before y)) (Some key) ks

    from : (b : Bool) → list_any (has_key key) before ≡ b
        → sum_by told (cond b None (Some (count_by (has_key key) all - 1)) ∷ repeats_from all (before ++ Some key ∷ []) ks) ≡ count_by (is_new before) (Some key ∷ ks)
    from true e =
        let next : List (Option (List ℕ)) = before ++ Some key ∷ [] in
        let same = same_count (is_new next) (is_new before) (after_old before key e) ks in
        let first = sum_by-cons told None (repeats_from all next ks) in
        let here = ap (λ (b : Bool). one_if (not b)) e in
        let whole = other in
        let later = rest in
        omega (arith, later, whole, same, first, here)
    from false e =
        let next : List (Option (List ℕ)) = before ++ Some key ∷ [] in
        let split = add_count (is_new before) (is_new next) (has_key key) (after_new before key e) ks in
        let first = sum_by-cons told (Some (count_by (has_key key) all - 1)) (repeats_from all next ks) in
        let here = ap (λ (b : Bool). one_if (not b)) e in
        let number = occurs all before ks key is e in
        let whole = other in
        let later = rest in
        omega (arith, later, whole, split, first, here, number)

told_from : (all before ks : List (Option (List ℕ))) → all ≡ before ++ ks → sum_by told (repeats_from all before ks) ≡ count_by (is_new before) ks
told_from all before [] is = refl
told_from all before (None ∷ ks) is =
    let next = before ++ None ∷ [] in
    let rest = told_from all next ks (is ∙ sym (append_assoc before (None ∷ []) ks)) in
    let same = same_count (is_new next) (is_new before) (after_none before) ks in
    let first = sum_by-cons told (Some 0) (repeats_from all next ks) in
    let other = sum_by-cons (λ y. one_if (is_new before y)) None ks in
    omega (arith, rest, same, first, other)
told_from all before (Some key ∷ ks) is =
    told_key all before ks key is (told_from all (before ++ Some key ∷ []) ks (is ∙ sym (append_assoc before (Some key ∷ []) ks)))

begins_new : (k : Option (List ℕ)) → one_if (is_new [] k) ≡ 1
begins_new None = refl
begins_new (Some key) = refl

all_new : (ks : List (Option (List ℕ))) → count_by (is_new []) ks ≡ length ks
all_new [] = refl
all_new (k ∷ ks) =
    let rest = all_new ks in
    let one = sum_by-cons (λ y. one_if (is_new [] y)) k ks in
    let here = begins_new k in
    omega (arith, rest, one, here)

pub each_told : (keys : List (Option (Vec ℕ Global))) (ms : List (Option ℕ)) → ms ≡ repeats (map key_seen keys) → sum_by told ms ≡ length keys
each_told keys ms is = ap (sum_by told) is ∙ told_from all [] all refl ∙ all_new all ∙ length-map keys key_seen
  where
    all : List (Option (List ℕ))
    all = map key_seen keys
