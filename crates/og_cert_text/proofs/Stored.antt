-- A file as it is kept.
use Rattle.std.proofs.Common.{◌≡◌, ℕ, zero, suc, ◌+◌, ◌<◌, ◌≤◌, List, [], ◌∷◌, ◌++◌, length, length-append, get_or, refl, ap, sym, ◌∙◌, arith, Bool, ◌&&◌, true, false, cond, Option, Some, None, Result, Ok, Err, Less, option_map, is_eq}
use Rattle.std.specs.Prelude.{nat_lt, ◌==◌}
use Rattle.std.specs.List.{list_all, AllByRecursion}
use Rattle.std.specs.Ordering.{nat_cmp}
use Rattle.std.specs.Option.{is_some}
use Rattle.std.specs.Result.{OnOk, OnErr}
use Rattle.std.specs.Map.{lookup, keys_of}
use denote.Bor.{Bor}
use Rattle.std.specs.Slice.{IsItemAt}
use Rattle.std.specs.BTreeMap.{is_at, insert_entry}
use Rattle.std.specs.List.Sorted.{IsStrictlySortedBy}
use Rattle.std.proofs.lemmas.Bool.Decides.{nat_tests}
use Rattle.og_cert_text.specs.declared.cert.Cert.{Cert}
use Rattle.og_cert_text.specs.Plain.{plain_cert}
use Rattle.og_cert_text.specs.Lines.{is_number}
use Rattle.og_cert_text.specs.Shallow.{is_well_formed}
use Rattle.og_cert_text.specs.Files.{certificate_of, with_entry}
use Rattle.og_cert_text.specs.Rising.{rise_from, is_file}
use Rattle.og_cert_text.specs.Stored.{placed, stored, is_stored}
use Rattle.og_cert_text.proofs.Forms.{both_true, and_parts, le_true, lt_true}

same_test : (n m : ℕ) → is_eq (nat_cmp n m) ≡ (n == m)
same_test n m = grind (arith, nat_tests)

lt_from : (a b : ℕ) → nat_lt a b ≡ true → a < b
lt_from a b h = grind (arith, nat_tests)

map_cond : {A B : Type 0} (f : A → B) (b : Bool) (x : A) (o : Option A) → option_map f (cond b (Some x) o) ≡ cond b (Some (f x)) (option_map f o)
map_cond f true x o = refl
map_cond f false x o = refl

-- ---- look-up

pub found_at : (n : ℕ) (ns : List (ℕ × ℕ)) (cs : List Cert) → certificate_of n (stored ns cs) ≡ option_map (placed cs) (lookup (is_at (nat_cmp n)) ns)
found_at n [] cs = refl
found_at n (e ∷ ns) cs =
    ap (λ o. cond (n == e.0) (Some (placed cs e.1)) o) (found_at n ns cs)
    ∙ sym (map_cond (placed cs) (n == e.0) e.1 (lookup (is_at (nat_cmp n)) ns))
    ∙ ap (λ b. option_map (placed cs) (cond b (Some e.1) (lookup (is_at (nat_cmp n)) ns))) (sym (same_test n e.0))

place_in : (t : ℕ → Bool) (ns : List (ℕ × ℕ)) (k i : ℕ) → list_all (λ e. is_number e.0 && nat_lt e.1 k) ns ≡ true → lookup t ns ≡ Some i → i < k
place_in t [] k i h e = cc
place_in t (x ∷ ns) k i h e =
    let p = and_parts (is_number x.0 && nat_lt x.1 k) (list_all (λ e. is_number e.0 && nat_lt e.1 k) ns) h in
    from (t x.0) (lt_from x.1 k (and_parts (is_number x.0) (nat_lt x.1 k) p.0).1) (place_in t ns k i p.1) e
  where
    from : (b : Bool) → x.1 < k → (lookup t ns ≡ Some i → i < k) → cond b (Some x.1) (lookup t ns) ≡ Some i → i < k
    from true lt later e = let same : x.1 ≡ i = cc in omega arith
    from false lt later e = later e

pub place_within : (t : ℕ → Bool) (ns : List (ℕ × ℕ)) (cs : List Cert) (i : ℕ) → is_stored ns cs ≡ true → lookup t ns ≡ Some i → i < length cs
place_within t ns cs i h e = place_in t ns (length cs) i (and_parts (list_all (λ e. is_number e.0 && nat_lt e.1 (length cs)) ns) (list_all (λ c. is_well_formed (plain_cert c)) cs) h).0 e

-- ---- the certificates

placed_more : (cs : List Cert) (c : Cert) (i : ℕ) → i < length cs → placed (cs ++ c ∷ []) i ≡ placed cs i
placed_more [] c i lt = absurd (omega arith)
placed_more (d ∷ cs) c zero lt = refl
placed_more (d ∷ cs) c (suc i) lt = placed_more cs c i (omega arith)

pub placed_last : (cs : List Cert) (c : Cert) → placed (cs ++ c ∷ []) (length cs) ≡ plain_cert c
placed_last [] c = refl
placed_last (d ∷ cs) c = placed_last cs c

pub placed_at : (cs : List Cert) (i : ℕ) (d : Cert) → i < length cs → placed cs i ≡ plain_cert (get_or cs i d)
placed_at [] i d lt = absurd (omega arith)
placed_at (c ∷ cs) zero d lt = refl
placed_at (c ∷ cs) (suc i) d lt = placed_at cs i d (omega arith)

placed_good : (cs : List Cert) (i : ℕ) → list_all (λ c. is_well_formed (plain_cert c)) cs ≡ true → i < length cs → is_well_formed (placed cs i) ≡ true
placed_good [] i h lt = absurd (omega arith)
placed_good (c ∷ cs) zero h lt = (and_parts (is_well_formed (plain_cert c)) (list_all (λ c. is_well_formed (plain_cert c)) cs) h).0
placed_good (c ∷ cs) (suc i) h lt = placed_good cs i (and_parts (is_well_formed (plain_cert c)) (list_all (λ c. is_well_formed (plain_cert c)) cs) h).1 (omega arith)

pub stored_good : (ns : List (ℕ × ℕ)) (cs : List Cert) (i : ℕ) → is_stored ns cs ≡ true → i < length cs → is_well_formed (placed cs i) ≡ true
stored_good ns cs i h lt = placed_good cs i (and_parts (list_all (λ e. is_number e.0 && nat_lt e.1 (length cs)) ns) (list_all (λ c. is_well_formed (plain_cert c)) cs) h).1 lt

-- ---- one certificate more

all_append : (cs : List Cert) (c : Cert) → list_all (λ c. is_well_formed (plain_cert c)) cs ≡ true → is_well_formed (plain_cert c) ≡ true → list_all (λ c. is_well_formed (plain_cert c)) (cs ++ c ∷ []) ≡ true
all_append [] c h good = both_true _ _ good refl
all_append (d ∷ cs) c h good =
    let p = and_parts (is_well_formed (plain_cert d)) (list_all (λ c. is_well_formed (plain_cert c)) cs) h in
    both_true _ _ p.0 (all_append cs c p.1 good)

wider : (ns : List (ℕ × ℕ)) (k l : ℕ) → k ≤ l → list_all (λ e. is_number e.0 && nat_lt e.1 k) ns ≡ true → list_all (λ e. is_number e.0 && nat_lt e.1 l) ns ≡ true
wider [] k l le h = refl
wider (x ∷ ns) k l le h =
    let p = and_parts (is_number x.0 && nat_lt x.1 k) (list_all (λ e. is_number e.0 && nat_lt e.1 k) ns) h in
    let q = and_parts (is_number x.0) (nat_lt x.1 k) p.0 in
    let below = lt_from x.1 k q.1 in
    both_true _ _ (both_true _ _ q.0 (lt_true x.1 l (omega arith))) (wider ns k l le p.1)

pub stored_pushed : (ns : List (ℕ × ℕ)) (cs : List Cert) (c : Cert) → is_stored ns cs ≡ true → is_well_formed (plain_cert c) ≡ true → is_stored ns (cs ++ c ∷ []) ≡ true
stored_pushed ns cs c h good =
    let p = and_parts (list_all (λ e. is_number e.0 && nat_lt e.1 (length cs)) ns) (list_all (λ c. is_well_formed (plain_cert c)) cs) h in
    both_true _ _ (wider ns (length cs) (length (cs ++ c ∷ [])) (omega (arith, length-append cs (c ∷ []))) p.0) (all_append cs c p.1 good)

shown_more : (ns : List (ℕ × ℕ)) (cs : List Cert) (c : Cert) → list_all (λ e. is_number e.0 && nat_lt e.1 (length cs)) ns ≡ true → stored ns (cs ++ c ∷ []) ≡ stored ns cs
shown_more [] cs c h = refl
shown_more (x ∷ ns) cs c h =
    let p = and_parts (is_number x.0 && nat_lt x.1 (length cs)) (list_all (λ e. is_number e.0 && nat_lt e.1 (length cs)) ns) h in
    let below = lt_from x.1 (length cs) (and_parts (is_number x.0) (nat_lt x.1 (length cs)) p.0).1 in
    ap (λ d. (x.0, d) ∷ stored ns (cs ++ c ∷ [])) (placed_more cs c x.1 below) ∙ ap (λ es. (x.0, placed cs x.1) ∷ es) (shown_more ns cs c p.1)

pub shown_pushed : (ns : List (ℕ × ℕ)) (cs : List Cert) (c : Cert) → is_stored ns cs ≡ true → stored ns (cs ++ c ∷ []) ≡ stored ns cs
shown_pushed ns cs c h = shown_more ns cs c (and_parts (list_all (λ e. is_number e.0 && nat_lt e.1 (length cs)) ns) (list_all (λ c. is_well_formed (plain_cert c)) cs) h).0

-- ---- one number more

pub shown_inserted : (ns : List (ℕ × ℕ)) (cs : List Cert) (n i : ℕ) → certificate_of n (stored ns cs) ≡ None → stored (insert_entry nat_cmp ns n i) cs ≡ with_entry n (placed cs i) (stored ns cs)
shown_inserted [] cs n i fresh = refl
shown_inserted (x ∷ ns) cs n i fresh = pick (nat_lt n x.0) (n == x.0) refl refl (shown_inserted ns cs n i)
  where
    pick : (lt eq : Bool) → nat_lt n x.0 ≡ lt → (n == x.0) ≡ eq → (certificate_of n (stored ns cs) ≡ None → stored (insert_entry nat_cmp ns n i) cs ≡ with_entry n (placed cs i) (stored ns cs))
        → stored (insert_entry nat_cmp (x ∷ ns) n i) cs ≡ with_entry n (placed cs i) (stored (x ∷ ns) cs)
    pick true eq p q later = rw p refl
    pick false true p q later = let found = rw q at fresh in cc
    pick false false p q later = rw (p, q) (ap (λ es. (x.0, placed cs x.1) ∷ es) (later (rw q at fresh)))

inserted_in : (ns : List (ℕ × ℕ)) (cs : List Cert) (n i : ℕ) → certificate_of n (stored ns cs) ≡ None → list_all (λ e. is_number e.0 && nat_lt e.1 (length cs)) ns ≡ true → (is_number n && nat_lt i (length cs)) ≡ true
    → list_all (λ e. is_number e.0 && nat_lt e.1 (length cs)) (insert_entry nat_cmp ns n i) ≡ true
inserted_in [] cs n i fresh h new = both_true _ _ new refl
inserted_in (x ∷ ns) cs n i fresh h new =
    let p = and_parts (is_number x.0 && nat_lt x.1 (length cs)) (list_all (λ e. is_number e.0 && nat_lt e.1 (length cs)) ns) h in
    pick (nat_lt n x.0) (n == x.0) refl refl p.0 (λ f. inserted_in ns cs n i f p.1 new)
  where
    pick : (lt eq : Bool) → nat_lt n x.0 ≡ lt → (n == x.0) ≡ eq → (is_number x.0 && nat_lt x.1 (length cs)) ≡ true → (certificate_of n (stored ns cs) ≡ None → list_all (λ e. is_number e.0 && nat_lt e.1 (length cs)) (insert_entry nat_cmp ns n i) ≡ true)
        → list_all (λ e. is_number e.0 && nat_lt e.1 (length cs)) (insert_entry nat_cmp (x ∷ ns) n i) ≡ true
    pick true eq p q here later = rw p (both_true _ _ new h)
    pick false true p q here later = let found = rw q at fresh in cc
    pick false false p q here later = rw (p, q) (both_true _ _ here (later (rw q at fresh)))

pub stored_inserted : (ns : List (ℕ × ℕ)) (cs : List Cert) (n i : ℕ) → certificate_of n (stored ns cs) ≡ None → is_stored ns cs ≡ true → is_number n ≡ true → i < length cs → is_stored (insert_entry nat_cmp ns n i) cs ≡ true
stored_inserted ns cs n i fresh h number within =
    let p = and_parts (list_all (λ e. is_number e.0 && nat_lt e.1 (length cs)) ns) (list_all (λ c. is_well_formed (plain_cert c)) cs) h in
    both_true _ _ (inserted_in ns cs n i fresh p.0 (both_true _ _ number (lt_true i (length cs) within))) p.1

-- ---- the order

less_from : (a b : ℕ) → nat_cmp a b ≡ Less → a < b
less_from a b h = grind (arith, nat_tests)

behind : (k : ℕ) (ks : List ℕ) → AllByRecursion (λ y. nat_cmp k y ≡ Less) ks → AllByRecursion (λ y. k + 1 ≤ y) ks
behind k [] h = h
behind k (y ∷ ks) h = (let lt = less_from k y h.0 in omega arith, behind k ks h.1)

rises : (low : ℕ) (ns : List (ℕ × ℕ)) (cs : List Cert) → IsStrictlySortedBy nat_cmp (keys_of ns) → AllByRecursion (λ y. low ≤ y) (keys_of ns) → rise_from low (stored ns cs) ≡ true
unfolding IsStrictlySortedBy
rises low [] cs sorted above = refl
rises low (x ∷ ns) cs sorted above = both_true _ _ (le_true low x.0 above.0) (rises (x.0 + 1) ns cs sorted.1 (behind x.0 (keys_of ns) sorted.0))

all_zero : (ks : List ℕ) → AllByRecursion (λ y. 0 ≤ y) ks
all_zero [] = tt
all_zero (k ∷ ks) = (omega arith, all_zero ks)

each_good : (ns : List (ℕ × ℕ)) (cs : List Cert) → list_all (λ e. is_number e.0 && nat_lt e.1 (length cs)) ns ≡ true → list_all (λ c. is_well_formed (plain_cert c)) cs ≡ true → list_all (λ e. is_number e.0 && is_well_formed e.1) (stored ns cs) ≡ true
each_good [] cs h good = refl
each_good (x ∷ ns) cs h good =
    let p = and_parts (is_number x.0 && nat_lt x.1 (length cs)) (list_all (λ e. is_number e.0 && nat_lt e.1 (length cs)) ns) h in
    let q = and_parts (is_number x.0) (nat_lt x.1 (length cs)) p.0 in
    both_true _ _ (both_true _ _ q.0 (placed_good cs x.1 good (lt_from x.1 (length cs) q.1))) (each_good ns cs p.1 good)

pub stored_is_file : (ns : List (ℕ × ℕ)) (cs : List Cert) → IsStrictlySortedBy nat_cmp (keys_of ns) → is_stored ns cs ≡ true → is_file (stored ns cs) ≡ true
stored_is_file ns cs sorted h =
    let p = and_parts (list_all (λ e. is_number e.0 && nat_lt e.1 (length cs)) ns) (list_all (λ c. is_well_formed (plain_cert c)) cs) h in
    both_true _ _ (rises 0 ns cs sorted (all_zero (keys_of ns))) (each_good ns cs p.0 p.1)

-- ---- tests of a file as it is kept

some_map : {A B : Type 0} (f : A → B) (o : Option A) → is_some (option_map f o) ≡ is_some o
some_map f None = refl
some_map f (Some x) = refl

pub has_at : (n : ℕ) (ns : List (ℕ × ℕ)) (cs : List Cert) (r : Option ℕ) → r ≡ lookup (is_at (nat_cmp n)) ns → is_some r ≡ is_some (certificate_of n (stored ns cs))
has_at n ns cs r e = ap is_some e ∙ sym (some_map (placed cs) (lookup (is_at (nat_cmp n)) ns)) ∙ ap is_some (sym (found_at n ns cs))

pub none_at : (n : ℕ) (ns : List (ℕ × ℕ)) (cs : List Cert) (r : Option ℕ) → r ≡ lookup (is_at (nat_cmp n)) ns → r ≡ None → certificate_of n (stored ns cs) ≡ None
none_at n ns cs r e none = found_at n ns cs ∙ ap (option_map (placed cs)) (sym e ∙ none)

pub some_at : (n i : ℕ) (ns : List (ℕ × ℕ)) (cs : List Cert) (r : Option ℕ) → r ≡ lookup (is_at (nat_cmp n)) ns → r ≡ Some i → certificate_of n (stored ns cs) ≡ Some (placed cs i)
some_at n i ns cs r e some = found_at n ns cs ∙ ap (option_map (placed cs)) (sym e ∙ some)

pub not_some : {A : Type 0} (o : Option A) → is_some o ≡ false → o ≡ None
not_some None h = refl
not_some (Some x) h = cc

-- a certificate that is lent from its place
pub borrowed : (r : Option (Bor Cert)) (cs ds : List Cert) (i : ℕ) → ds ≡ cs → IsItemAt ds i r → i < length cs → option_map (λ c. plain_cert c.now) r ≡ Some (placed cs i)
borrowed None cs ds i same h lt = let e = lt_true i (length ds) (omega (arith, ap length same)) in let none = h.0 in cc
borrowed (Some x) cs ds i same h lt = ap Some (ap plain_cert h.1 ∙ ap (λ l. plain_cert (get_or l i x.now)) same ∙ sym (placed_at cs i x.now lt))

-- after an insertion, or one for which memory ran out
pub entries_kept : {A E : Type 0} (r : Result A E) (ns ms : List (ℕ × ℕ)) (cs : List Cert) (n i : ℕ) → OnOk r (ms ≡ insert_entry nat_cmp ns n i) → OnErr r (ms ≡ ns)
    → is_stored ns cs ≡ true → certificate_of n (stored ns cs) ≡ None → is_number n ≡ true → i < length cs → is_stored ms cs ≡ true
entries_kept (Ok x) ns ms cs n i ok err h fresh number within = ap (λ es. is_stored es cs) ok ∙ stored_inserted ns cs n i fresh h number within
entries_kept (Err e) ns ms cs n i ok err h fresh number within = ap (λ es. is_stored es cs) err ∙ h

-- after a push, or one for which memory ran out
pub pushed_kept : {A E : Type 0} (r : Result A E) (ns : List (ℕ × ℕ)) (cs ds : List Cert) (c : Cert) → OnOk r (ds ≡ cs ++ c ∷ []) → OnErr r (ds ≡ cs) → is_stored ns cs ≡ true → is_well_formed (plain_cert c) ≡ true → is_stored ns ds ≡ true
pushed_kept (Ok x) ns cs ds c ok err h good = ap (is_stored ns) ok ∙ stored_pushed ns cs c h good
pushed_kept (Err e) ns cs ds c ok err h good = ap (is_stored ns) err ∙ h
