-- Keys, counted and taken out one after another.
use Rattle.std.proofs.Common.{◌≡◌, ℕ, zero, suc, ◌+◌, ◌-◌, ◌<◌, List, [], ◌∷◌, ◌++◌, length, take, drop, Bool, true, false, true≢false, ◌||◌, cond, Option, Some, None, Vec, refl, sym, ap, ap₂, ◌∙◌, append_assoc, add-one, arith}
use Rattle.std.specs.Prelude.{slice_get, count_by, option_map, unwrap_or}
use Rattle.std.specs.Global.{Global}
use Rattle.std.specs.List.{list_any, sum_by}
use Rattle.std.specs.Str.{bytes_eq}
use Rattle.std.specs.Ordering.{nat_cmp, is_eq}
use Rattle.std.specs.Cmp.{eq_by_cmp_equiv}
use Rattle.std.specs.Cmp.Lexicographic.{slice_cmp, bytes_decides, nat_list_cmp_total, nat_list_eq_equiv}
use Rattle.std.specs.BTreeMap.{BTreeMap, UpdatesBy, is_at}
use Rattle.std.specs.Map.{lookup, IsKeyTest, AreApart, KeepsOthers}
use Rattle.std.proofs.lemmas.Map.Text.{is_eq-slice_cmp}
use Rattle.std.proofs.lemmas.List.Folds.{list_any-append}
use Rattle.std.proofs.lemmas.List.Sums.{sum_by-append, sum_by-cons}
use Rattle.og_cert_read.specs.Firsts.{found}
use Rattle.og_report_prove.specs.Together.{has_key, total, counted, left_of, more_left, without, more_of, repeats_from, repeats}
use Rattle.og_report_prove.proofs.Lists.{dropped, taken}

-- ---- a map in which one text has another number

abbrev vec_order : Vec ℕ Global → Vec ℕ Global → Rattle.std.specs.declared.cmp.Ordering.Ordering
vec_order x y = slice_cmp nat_cmp x.items y.items

others : (eq : Vec ℕ Global → Vec ℕ Global → Bool) (test : Vec ℕ Global → Bool) (old new : List (Vec ℕ Global × ℕ)) → KeepsOthers eq test old new → (other : Vec ℕ Global → Bool) → IsKeyTest eq other → AreApart test other → lookup other new ≡ lookup other old
unfolding KeepsOthers
others eq test old new h = h

apart_in_order : (bs cs ks : List ℕ) → bytes_eq bs cs ≡ false → is_eq (slice_cmp nat_cmp bs ks) ≡ true → is_eq (slice_cmp nat_cmp cs ks) ≡ false
apart_in_order bs cs ks n y =
    is_eq-slice_cmp cs ks ∙ nat_list_eq_equiv.symm cs ks ∙ sym (nat_list_eq_equiv.congr bs ks cs (sym (is_eq-slice_cmp bs ks) ∙ y)) ∙ n

pub updated : (text : List ℕ) (w : Option ℕ) (old new : BTreeMap (Vec ℕ Global) ℕ) → UpdatesBy vec_order (λ k. slice_cmp nat_cmp text k.items) old new w
    → (t : List ℕ) → found t new ≡ cond (bytes_eq t text) w (found t old)
updated text w old new h t = from (bytes_eq text t) refl
  where
    turned : (b : Bool) → bytes_eq text t ≡ b → cond b w (found t old) ≡ cond (bytes_eq t text) w (found t old)
    turned b e = ap (λ c. cond c w (found t old)) (sym (nat_list_eq_equiv.symm t text ∙ e))

    from : (b : Bool) → bytes_eq text t ≡ b → found t new ≡ cond (bytes_eq t text) w (found t old)
    from true e = ap (λ u. found u new) (sym ((bytes_decides text t).0 e)) ∙ h.1 ∙ turned true e
    from false e =
        others _ _ old.entries new.entries h.3 (is_at (λ k. slice_cmp nat_cmp t k.items)) (λ x y. (eq_by_cmp_equiv nat_list_cmp_total).congr t x.items y.items) (λ k. apart_in_order text t k.items e)
        ∙ turned false e

-- counted once more, and taken out
pub counted_again : (text : List ℕ) (n : ℕ) (old new : BTreeMap (Vec ℕ Global) ℕ) → n ≡ unwrap_or (found text old) 0 → ((t : List ℕ) → found t new ≡ cond (bytes_eq t text) (Some (n + 1)) (found t old))
    → (t : List ℕ) → found t new ≡ counted (bytes_eq t text) (found t old)
counted_again text n old new is h t = h t ∙ from (bytes_eq t text) refl
  where
    from : (b : Bool) → bytes_eq t text ≡ b → cond b (Some (n + 1)) (found t old) ≡ counted b (found t old)
    from true e = ap (λ (m : ℕ). Some (m + 1)) (is ∙ ap (λ u. unwrap_or (found u old) 0) (sym ((bytes_decides t text).0 e)))
    from false e = refl

pub taken_out : (b : Bool) (o : Option ℕ) → cond b None o ≡ without b o
taken_out true o = refl
taken_out false o = refl

-- ---- how often keys occur

count_more : {X : Type 0} (p : X → Bool) (xs : List X) (x : X) → count_by p (xs ++ x ∷ []) ≡ count_by p xs + cond (p x) 1 0
count_more p xs x = sum_by-append (λ y. cond (p y) 1 0) xs (x ∷ []) ∙ omega arith

positive : (b : Bool) (n m : ℕ) → b ≡ true → n ≡ cond b 1 0 + m → 0 < n
positive true n m h is = omega (arith, is)
positive false n m h is = absurd (true≢false (sym h))

count_some : {X : Type 0} (p : X → Bool) (xs : List X) (i : ℕ) (x : X) → slice_get xs i ≡ Some x → p x ≡ true → 0 < count_by p xs
count_some p [] i x is e = absurd (cc)
count_some p (y ∷ xs) zero x is e =
    positive (p y) (count_by p (y ∷ xs)) (count_by p xs) (ap (λ o. p (unwrap_or o y)) is ∙ e) (sum_by-cons (λ z. cond (p z) 1 0) y xs)
count_some p (y ∷ xs) (suc i) x is e =
    let rest = count_some p xs i x is e in
    let all = sum_by-cons (λ z. cond (p z) 1 0) y xs in
    omega (arith, rest, all)

total_more : (c : ℕ) → Some (c + 1) ≡ total (c + 1)
total_more c = ap (λ (n : ℕ). Some n) (add-one c) ∙ ap total (sym (add-one c))

or_0 : (c : ℕ) → unwrap_or (total c) 0 ≡ c
or_0 zero = refl
or_0 (suc c) = refl

pub counted_more : (ks : List (Option (List ℕ))) (k : Option (List ℕ)) (t : List ℕ) (o n : Option ℕ) → o ≡ total (count_by (has_key t) ks) → n ≡ counted (has_key t k) o
    → n ≡ total (count_by (has_key t) (ks ++ k ∷ []))
counted_more ks k t o n was h = h ∙ from (has_key t k) refl
  where
    c : ℕ
    c = count_by (has_key t) ks

    from : (b : Bool) → has_key t k ≡ b → counted b o ≡ total (count_by (has_key t) (ks ++ k ∷ []))
    from true e =
        ap (λ (x : Option ℕ). Some (unwrap_or x 0 + 1)) was ∙ ap (λ (m : ℕ). Some (m + 1)) (or_0 c) ∙ total_more c
        ∙ ap total (sym (count_more (has_key t) ks k ∙ ap (λ b. c + cond b 1 0) e))
    from false e =
        let same : c ≡ c + 0 = omega arith in
        was ∙ ap total (same ∙ sym (count_more (has_key t) ks k ∙ ap (λ b. c + cond b 1 0) e))

-- ---- keys that are taken out

pub left_begins : (all : List (Option (List ℕ))) (t : List ℕ) → total (count_by (has_key t) all) ≡ left_of all [] t
left_begins all t = refl

pub left_goes : (all before : List (Option (List ℕ))) (k : Option (List ℕ)) (t : List ℕ) (o n : Option ℕ) → o ≡ left_of all before t → n ≡ without (has_key t k) o → n ≡ left_of all (before ++ k ∷ []) t
left_goes all before k t o n was h =
    h ∙ ap (without (has_key t k)) was ∙ from (list_any (has_key t) before) (has_key t k)
    ∙ ap (λ b. cond b None c) (sym (list_any-append (has_key t) before (k ∷ [])))
  where
    c : Option ℕ
    c = total (count_by (has_key t) all)

    from : (a b : Bool) → without b (cond a None c) ≡ cond (a || (b || false)) None c
    from true true = refl
    from true false = refl
    from false true = refl
    from false false = refl

-- the number of a key that occurs
more_is : (all before : List (Option (List ℕ))) (key : List ℕ) → 0 < count_by (has_key key) all → option_map (λ n. n - 1) (left_of all before key) ≡ more_of all before (Some key)
more_is all before key some = from (list_any (has_key key) before) (count_by (has_key key) all) some
  where
    from : (b : Bool) (c : ℕ) → 0 < c → option_map (λ n. n - 1) (cond b None (total c)) ≡ cond b None (Some (c - 1))
    from true c h = refl
    from false zero h = absurd (omega arith)
    from false (suc c) h = refl

-- all keys, as far as they are taken out
pub record IsLeft (all : List (Option (List ℕ))) (i : ℕ) (counts : BTreeMap (Vec ℕ Global) ℕ) (ms : List (Option ℕ)) : Type 0 where
  pub left : (t : List ℕ) → found t counts ≡ left_of all (take i all) t
  pub whole : ms ++ repeats_from all (take i all) (drop i all) ≡ repeats all

pub is_left_begins : (all : List (Option (List ℕ))) (counts : BTreeMap (Vec ℕ Global) ℕ) (ms : List (Option ℕ)) → ms ≡ [] → ((t : List ℕ) → found t counts ≡ total (count_by (has_key t) all)) → IsLeft all 0 counts ms
is_left_begins all counts ms none h = record { left = h; whole = ap (λ (x : List (Option ℕ)). x ++ repeats all) none }

more_at : (all : List (Option (List ℕ))) (i : ℕ) (k : Option (List ℕ)) (left : List ℕ → Option ℕ) → slice_get all i ≡ Some k → ((t : List ℕ) → left t ≡ left_of all (take i all) t) → more_left left k ≡ more_of all (take i all) k
more_at all i None left is h = refl
more_at all i (Some key) left is h =
    ap (option_map (λ n. n - 1)) (h key) ∙ more_is all (take i all) key (count_some (has_key key) all i (Some key) is (nat_list_eq_equiv.refl key))

pub is_left_goes : (all : List (Option (List ℕ))) (i : ℕ) (k : Option (List ℕ)) (old new : BTreeMap (Vec ℕ Global) ℕ) (ms ns : List (Option ℕ)) (m : Option ℕ) → slice_get all i ≡ Some k
    → m ≡ more_left (λ t. found t old) k → ((t : List ℕ) → found t new ≡ without (has_key t k) (found t old)) → ns ≡ ms ++ m ∷ [] → IsLeft all i old ms → IsLeft all (i + 1) new ns
is_left_goes all i k old new ms ns m is more took put s =
    let next = taken all i k is in
    let rest = repeats_from all (take i all ++ k ∷ []) (drop (i + 1) all) in
    record {
      left = λ t. left_goes all (take i all) k t (found t old) (found t new) (s.left t) (took t) ∙ ap (λ b. left_of all b t) (sym next);
      whole =
          ap₂ (λ (x : List (Option ℕ)) b. x ++ repeats_from all b (drop (i + 1) all)) put next ∙ append_assoc ms (m ∷ []) rest
          ∙ ap (λ (x : Option ℕ). ms ++ (x ∷ rest)) (more ∙ more_at all i k (λ t. found t old) is s.left)
          ∙ ap (λ l. ms ++ repeats_from all (take i all) l) (sym (dropped all i k is)) ∙ s.whole;
    }

none_more : (ms : List (Option ℕ)) → ms ++ [] ≡ ms
none_more [] = refl
none_more (m ∷ ms) = ap (λ xs. m ∷ xs) (none_more ms)

pub is_left_ends : (all : List (Option (List ℕ))) (i : ℕ) (counts : BTreeMap (Vec ℕ Global) ℕ) (ms : List (Option ℕ)) → drop i all ≡ [] → IsLeft all i counts ms → ms ≡ repeats all
is_left_ends all i counts ms none s = sym (none_more ms) ∙ ap (λ l. ms ++ repeats_from all (take i all) l) (sym none) ∙ s.whole

-- ---- how many there are

repeats_from_length : (all before ks : List (Option (List ℕ))) → length (repeats_from all before ks) ≡ length ks
repeats_from_length all before [] = refl
repeats_from_length all before (k ∷ ks) = let rest = repeats_from_length all (before ++ k ∷ []) ks in omega (arith, rest)

pub repeats_length : (keys : List (Option (List ℕ))) → length (repeats keys) ≡ length keys
repeats_length keys = repeats_from_length keys [] keys
