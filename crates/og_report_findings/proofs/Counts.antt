-- How many conditions are told of.
use Rattle.std.proofs.Common.{◌≡◌, ◌∙◌, ℕ, ◌+◌, ◌-◌, ◌<◌, List, [], ◌∷◌, ◌++◌, length, Bool, true, false, true≢false, ◌||◌, cond, Option, Some, None, refl, sym, ap, subst, append_assoc, arith}
use Rattle.std.specs.Prelude.{count_by, sum_by}
use Rattle.std.specs.List.{list_any}
use Rattle.std.specs.Str.{bytes_eq}
use Rattle.std.specs.Cmp.Lexicographic.{bytes_decides}
use Rattle.std.proofs.lemmas.List.Folds.{list_any-append}
use Rattle.std.proofs.lemmas.List.{append-nil, length-map}
use Rattle.std.proofs.lemmas.List.Sums.{sum_by-append, sum_by-cons}
use Rattle.og_cond.specs.Condition.{Condition}
use Rattle.og_report_prove.specs.Report.{is_proved, is_false, is_open}
use Rattle.og_report_text.specs.Origins.{Rows}
use Rattle.og_report_prove.specs.Together.{has_key, key_of, more_of, repeats_from, repeats}
use Rattle.og_report_prove.proofs.Keys.{repeats_length}
use Rattle.og_report_prove.specs.declared.diagnosis.Diagnosis.{Diagnosis}
use Rattle.og_report_prove.specs.declared.diagnosis.Diagnosis.TheVariants as diagnosis
use Rattle.og_report_runs.specs.declared.witness.Run.{Run}
use Rattle.og_report_findings.specs.Causes.{keys_of, with_more, shown}
use Rattle.og_report_findings.specs.Entries.{Entry, unproved_from}
use Rattle.og_report_findings.specs.Told.{stands_for, AreCounted}

abbrev Keys : Type 0
Keys = List (Option (List ℕ))

-- ---- with those that are shown all are counted

-- how many one of them counts
abbrev counts : Option ℕ → ℕ
counts None = 0
counts (Some more) = more + 1

sum_shown : (es : List Entry) (ms : List (Option ℕ)) → length ms ≡ length es → sum_by stands_for (with_more es ms) ≡ sum_by counts ms
sum_shown [] [] h = refl
sum_shown [] (m ∷ ms) h = absurd (omega (arith, h))
sum_shown (e ∷ es) [] h = absurd (omega (arith, h))
sum_shown (e ∷ es) (None ∷ ms) h =
    let tails : length ms ≡ length es = omega (arith, h) in
    let here = sum_by-cons counts None ms in let behind = sum_shown es ms tails in omega (arith, here, behind)
sum_shown (e ∷ es) (Some m ∷ ms) h =
    let tails : length ms ≡ length es = omega (arith, h) in
    let one = sum_by-cons stands_for (record { entry = e; more = m }) (with_more es ms) in
    let here = sum_by-cons counts (Some m) ms in let behind = sum_shown es ms tails in omega (arith, one, here, behind)

-- a key is among these
abbrev among : Keys → Option (List ℕ) → Bool
among before None = false
among before (Some key) = list_any (has_key key) before

-- a condition has no key
abbrev has_none : Option (List ℕ) → Bool
has_none None = true
has_none (Some key) = false

-- ---- tests of which one follows from another

count_same : {X : Type 0} (p q : X → Bool) → ((x : X) → p x ≡ q x) → (xs : List X) → count_by p xs ≡ count_by q xs
count_same p q h [] = refl
count_same p q h (x ∷ xs) =
    sum_by-cons (λ y. cond (p y) 1 0) x xs ∙ ap (λ (b : Bool). cond b 1 0 + count_by p xs) (h x) ∙ ap (λ (n : ℕ). cond (q x) 1 0 + n) (count_same p q h xs)
    ∙ sym (sum_by-cons (λ y. cond (q y) 1 0) x xs)

abbrev bit : Bool → ℕ
bit b = cond b 1 0

-- where each passes r as often as p and q
count_split : {X : Type 0} (p q r : X → Bool) → ((x : X) → bit (r x) ≡ bit (p x) + bit (q x)) → (xs : List X) → count_by r xs ≡ count_by p xs + count_by q xs
count_split p q r h [] = refl
count_split p q r h (x ∷ xs) =
    let a = sum_by-cons (λ y. cond (r y) 1 0) x xs in
    let b = sum_by-cons (λ y. cond (p y) 1 0) x xs in
    let c = sum_by-cons (λ y. cond (q y) 1 0) x xs in
    let d = count_split p q r h xs in
    let e = h x in
    omega (arith, a, b, c, d, e)

-- ---- a key more

among_more : (before : Keys) (k : Option (List ℕ)) (key : List ℕ) → list_any (has_key key) (before ++ k ∷ []) ≡ (list_any (has_key key) before || has_key key k)
among_more before k key = list_any-append (has_key key) before (k ∷ []) ∙ or_false (has_key key k) (list_any (has_key key) before)
  where
    or_false : (b a : Bool) → (a || (b || false)) ≡ (a || b)
    or_false true a = refl
    or_false false a = refl

or_false : (a : Bool) → (a || false) ≡ a
or_false true = refl
or_false false = refl

or_true : (a : Bool) → (a || true) ≡ true
or_true true = refl
or_true false = refl

-- a key that there is none of changes nothing
none_more : (before : Keys) (o : Option (List ℕ)) → among (before ++ None ∷ []) o ≡ among before o
none_more before None = refl
none_more before (Some key) = among_more before None key ∙ or_false (list_any (has_key key) before)

-- nor does one that is among them
again : (before : Keys) (key : List ℕ) → list_any (has_key key) before ≡ true → (o : Option (List ℕ)) → among (before ++ Some key ∷ []) o ≡ among before o
again before key seen None = refl
again before key seen (Some other) = among_more before (Some key) other ∙ from (bytes_eq other key) refl
  where
    from : (b : Bool) → bytes_eq other key ≡ b → (list_any (has_key other) before || b) ≡ list_any (has_key other) before
    from true e =
        let is = ap (λ (t : List ℕ). list_any (has_key t) before) ((bytes_decides other key).0 e) ∙ seen in
        or_true (list_any (has_key other) before) ∙ sym is
    from false e = or_false (list_any (has_key other) before)

not_true : (b : Bool) → (b ≡ true → ⊥) → b ≡ false
not_true true h = absurd (h refl)
not_true false h = refl

-- a new one adds those that have it
new_one : (before : Keys) (key : List ℕ) → list_any (has_key key) before ≡ false → (o : Option (List ℕ)) → bit (among (before ++ Some key ∷ []) o) ≡ bit (among before o) + bit (has_key key o)
new_one before key new None = refl
new_one before key new (Some other) = ap bit (among_more before (Some key) other) ∙ from (bytes_eq other key) refl
  where
    turned : (b : Bool) → bytes_eq other key ≡ b → bytes_eq key other ≡ b
    turned true e = (bytes_decides key other).1 (sym ((bytes_decides other key).0 e))
    turned false e = not_true (bytes_eq key other) (λ h. true≢false (sym ((bytes_decides other key).1 (sym ((bytes_decides key other).0 h))) ∙ e))

    from : (b : Bool) → bytes_eq other key ≡ b → bit (list_any (has_key other) before || b) ≡ bit (list_any (has_key other) before) + bit (bytes_eq key other)
    from true e =
        let is = ap (λ (t : List ℕ). list_any (has_key t) before) ((bytes_decides other key).0 e) ∙ new in
        let one = ap bit (or_true (list_any (has_key other) before)) in
        let none = ap bit is in
        let has = ap bit (turned true e) in
        omega (arith, one, none, has)
    from false e =
        let has = ap bit (turned false e) in
        let same = ap bit (or_false (list_any (has_key other) before)) in
        omega (arith, has, same)

-- one that is there has at least one
at_least_one : (before ks : Keys) (key : List ℕ) → 0 < count_by (has_key key) (before ++ Some key ∷ ks)
at_least_one before ks key =
    let all = sum_by-append (λ o. cond (has_key key o) 1 0) before (Some key ∷ ks) in
    let here = sum_by-cons (λ o. cond (has_key key o) 1 0) (Some key) ks in
    let is = ap bit ((bytes_decides key key).1 refl) in
    omega (arith, all, here, is)

-- ---- how many are counted, one key after another

one_key : (all before : Keys) (k : Option (List ℕ)) (ks : Keys) → all ≡ before ++ k ∷ ks
    → counts (more_of all before k) + count_by (among before) all ≡ count_by (among (before ++ k ∷ [])) all + bit (has_none k)
one_key all before None ks is =
    let same = count_same (among (before ++ None ∷ [])) (among before) (none_more before) all in
    omega (arith, same)
one_key all before (Some key) ks is = from (list_any (has_key key) before) refl
  where
    from : (b : Bool) → list_any (has_key key) before ≡ b
        → counts (cond b None (Some (count_by (has_key key) all - 1))) + count_by (among before) all ≡ count_by (among (before ++ Some key ∷ [])) all + 0
    from true e =
        let same = count_same (among (before ++ Some key ∷ [])) (among before) (again before key e) all in
        omega (arith, same)
    from false e =
        let more = count_split (among before) (has_key key) (among (before ++ Some key ∷ [])) (new_one before key e) all in
        let some = subst (λ (os : Keys). 0 < count_by (has_key key) os) (sym is) (at_least_one before ks key) in
        omega (arith, more, some)

keys_from : (all before ks : Keys) → all ≡ before ++ ks
    → sum_by counts (repeats_from all before ks) + count_by (among before) all ≡ count_by (among (before ++ ks)) all + count_by has_none ks
keys_from all before [] is =
    let same = ap (λ (os : Keys). count_by (among os) all) (append-nil before) in
    omega (arith, same)
keys_from all before (k ∷ ks) is =
    let behind = keys_from all (before ++ k ∷ []) ks (is ∙ sym (append_assoc before (k ∷ []) ks)) in
    let same = ap (λ (os : Keys). count_by (among os) all) (append_assoc before (k ∷ []) ks) in
    let sums = sum_by-cons counts (more_of all before k) (repeats_from all (before ++ k ∷ []) ks) in
    let nones = sum_by-cons (λ o. cond (has_none o) 1 0) k ks in
    let here = one_key all before k ks is in
    omega (arith, behind, same, sums, nones, here)

-- each one has a key that is among them, or none
each_among : (before ks : Keys) → count_by (among (before ++ ks)) ks + count_by has_none ks ≡ length ks
each_among before [] = refl
each_among before (k ∷ ks) =
    let behind = each_among (before ++ k ∷ []) ks in
    let same = ap (λ (os : Keys). count_by (among os) ks) (append_assoc before (k ∷ []) ks) in
    let found = sum_by-cons (λ o. cond (among (before ++ k ∷ ks) o) 1 0) k ks in
    let nones = sum_by-cons (λ o. cond (has_none o) 1 0) k ks in
    let here = one k in
    omega (arith, behind, same, found, nones, here)
  where
    one : (o : Option (List ℕ)) → bit (among (before ++ o ∷ ks) o) + bit (has_none o) ≡ 1
    one None = refl
    one (Some key) =
        let is = list_any-append (has_key key) before (Some key ∷ ks) in
        let own = ap (λ (b : Bool). (list_any (has_key key) before || (b || list_any (has_key key) ks))) ((bytes_decides key key).1 refl) in
        let whole = ap bit (is ∙ own ∙ or_true (list_any (has_key key) before)) in
        omega (arith, whole)

none_among : (ks : Keys) → count_by (among []) ks ≡ 0
none_among [] = refl
none_among (None ∷ ks) =
    let here = sum_by-cons (λ o. cond (among [] o) 1 0) None ks in let behind = none_among ks in omega (arith, here, behind)
none_among (Some key ∷ ks) =
    let here = sum_by-cons (λ o. cond (among [] o) 1 0) (Some key) ks in let behind = none_among ks in omega (arith, here, behind)

keys_counted : (keys : Keys) → sum_by counts (repeats keys) ≡ length keys
keys_counted keys =
    let all = keys_from keys [] keys refl in
    let none = none_among keys in
    let each = each_among [] keys in
    omega (arith, all, none, each)

pub shown_counted : (rows : Rows) (es : List Entry) → sum_by stands_for (shown rows es) ≡ length es
shown_counted rows es =
    let many = length-map es (λ e. key_of rows e.condition e.diagnosis) in
    sum_shown es (repeats (keys_of rows es)) (repeats_length (keys_of rows es) ∙ many) ∙ keys_counted (keys_of rows es) ∙ many

-- ---- totals

all_counted : (ts : List Diagnosis) → count_by is_proved ts + (count_by is_false ts + count_by is_open ts) ≡ length ts
all_counted [] = refl
all_counted (t ∷ ts) =
    let proved = sum_by-cons (λ x. cond (is_proved x) 1 0) t ts in
    let refuted = sum_by-cons (λ x. cond (is_false x) 1 0) t ts in
    let unknown = sum_by-cons (λ x. cond (is_open x) 1 0) t ts in
    let behind = all_counted ts in
    let here = one t in
    omega (arith, proved, refuted, unknown, behind, here)
  where
    one : (x : Diagnosis) → bit (is_proved x) + (bit (is_false x) + bit (is_open x)) ≡ 1
    one diagnosis.Proved = refl
    one (diagnosis.False block) = refl
    one diagnosis.Open = refl

unproved_counted : (n : ℕ) (cs : List Condition) (ts : List Diagnosis) (rs : List Run) → length ts ≡ length cs → length rs ≡ length cs
    → length (unproved_from n cs ts rs) ≡ count_by is_false ts + count_by is_open ts
unproved_counted n [] [] rs each run = refl
unproved_counted n [] (t ∷ ts) rs each run = absurd (omega (arith, each))
unproved_counted n (c ∷ cs) [] rs each run = absurd (omega (arith, each))
unproved_counted n (c ∷ cs) (t ∷ ts) [] each run = absurd (omega (arith, run))
unproved_counted n (c ∷ cs) (t ∷ ts) (r ∷ rs) each run =
    let refuted = sum_by-cons (λ x. cond (is_false x) 1 0) t ts in
    let unknown = sum_by-cons (λ x. cond (is_open x) 1 0) t ts in
    let behind = unproved_counted (n + 1) cs ts rs (omega (arith, each)) (omega (arith, run)) in
    let here = one t in
    omega (arith, refuted, unknown, behind, here)
  where
    one : (x : Diagnosis) → length (cond (is_proved x) [] (record { number = n; condition = c; diagnosis = t; run = r } ∷ []) ++ unproved_from (n + 1) cs ts rs)
        ≡ bit (is_false x) + (bit (is_open x) + length (unproved_from (n + 1) cs ts rs))
    one diagnosis.Proved = omega arith
    one (diagnosis.False block) = omega arith
    one diagnosis.Open = omega arith

pub are_counted : (cs : List Condition) (ts : List Diagnosis) (rs : List Run) → length ts ≡ length cs → length rs ≡ length cs → AreCounted ts (unproved_from 1 cs ts rs)
are_counted cs ts rs each run = record { all = all_counted ts; unproved = unproved_counted 1 cs ts rs each run }
