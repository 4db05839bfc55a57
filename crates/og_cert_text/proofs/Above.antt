-- The least number above one.
use Rattle.std.proofs.Common.{◌≡◌, ◌≢◌, ℕ, ◌<◌, ◌≤◌, List, [], ◌∷◌, length, refl, ap, sym, ◌∙◌, arith, Bool, ◌&&◌, true, false, cond, Some, None, Less}
use Rattle.std.specs.Prelude.{nat_lt, nat_le, ◌==◌, filter}
use Rattle.std.specs.List.{AllByRecursion, list_all}
use Rattle.std.specs.Ordering.{nat_cmp, is_lt}
use Rattle.std.specs.Option.{IsSome, is_some}
use Rattle.std.specs.Map.{keys_of}
use Rattle.std.specs.List.Sorted.{IsStrictlySortedBy}
use Rattle.std.proofs.lemmas.Bool.Decides.{nat_tests}
use Rattle.og_cert_text.specs.declared.cert.Cert.{Cert}
use Rattle.og_cert_text.specs.Files.{certificate_of}
use Rattle.og_cert_text.specs.Rising.{IsLeastAbove, above}
use Rattle.og_cert_text.specs.Stored.{placed, stored, is_stored}
use Rattle.og_cert_text.specs.Tree as tree
use Rattle.og_cert_text.specs.Plain.{plain_cert}
use Rattle.og_cert_text.specs.Lines.{is_number}
use Rattle.og_cert_text.specs.Shallow.{is_well_formed}
use Rattle.og_cert_text.proofs.Forms.{and_parts, le_from}

lt_from : (a b : ℕ) → nat_lt a b ≡ true → a < b
lt_from a b h = grind (arith, nat_tests)

ge_from : (a b : ℕ) → nat_lt a b ≡ false → b ≤ a
ge_from a b h = grind (arith, nat_tests)

less_from : (a b : ℕ) → nat_cmp a b ≡ Less → a < b
less_from a b h = grind (arith, nat_tests)

apart : (a b : ℕ) → a ≢ b → (a == b) ≡ false
apart a b h = grind (arith, nat_tests)

same : (a b : ℕ) → a ≡ b → (a == b) ≡ true
same a b h = grind (arith, nat_tests)

above_is : (n q : ℕ) → (is_lt (nat_cmp n q) && true) ≡ nat_lt n q
above_is n q = grind (arith, nat_tests)

filter_is : (n : ℕ) (ns : List (ℕ × ℕ)) → filter (λ e. is_lt (nat_cmp n e.0) && true) ns ≡ filter (λ e. nat_lt n e.0) ns
filter_is n [] = refl
filter_is n (x ∷ ns) =
    ap (λ b. cond b (x ∷ filter (λ e. is_lt (nat_cmp n e.0) && true) ns) (filter (λ e. is_lt (nat_cmp n e.0) && true) ns)) (above_is n x.0)
    ∙ ap (λ l. cond (nat_lt n x.0) (x ∷ l) l) (filter_is n ns)

skip : (k : ℕ) (x : ℕ × ℕ) (ns : List (ℕ × ℕ)) (cs : List Cert) → k ≢ x.0 → certificate_of k (stored (x ∷ ns) cs) ≡ certificate_of k (stored ns cs)
skip k x ns cs h = ap (λ b. cond b (Some (placed cs x.1)) (certificate_of k (stored ns cs))) (apart k x.0 h)

none_above : (n m : ℕ) (ns : List (ℕ × ℕ)) (cs : List Cert) → filter (λ e. nat_lt n e.0) ns ≡ [] → n < m → certificate_of m (stored ns cs) ≡ None
none_above n m [] cs h lt = refl
none_above n m (x ∷ ns) cs h lt = pick (nat_lt n x.0) refl h (λ f. none_above n m ns cs f lt)
  where
    pick : (b : Bool) → nat_lt n x.0 ≡ b → cond b (x ∷ filter (λ e. nat_lt n e.0) ns) (filter (λ e. nat_lt n e.0) ns) ≡ [] → (filter (λ e. nat_lt n e.0) ns ≡ [] → certificate_of m (stored ns cs) ≡ None) → certificate_of m (stored (x ∷ ns) cs) ≡ None
    pick true p h later = cc
    pick false p h later = let le = ge_from n x.0 p in let other : m ≢ x.0 = omega arith in skip m x ns cs other ∙ later h

below_none : (k : ℕ) (ns : List (ℕ × ℕ)) (cs : List Cert) → AllByRecursion (λ y. k < y) (keys_of ns) → certificate_of k (stored ns cs) ≡ None
below_none k [] cs h = refl
below_none k (x ∷ ns) cs h = let lt = h.0 in let other : k ≢ x.0 = omega arith in skip k x ns cs other ∙ below_none k ns cs h.1

under : (k l : ℕ) (ks : List ℕ) → k < l → AllByRecursion (λ y. nat_cmp l y ≡ Less) ks → AllByRecursion (λ y. k < y) ks
under k l [] lt h = h
under k l (y ∷ ks) lt h = (let up = less_from l y h.0 in omega arith, under k l ks lt h.1)

abbrev First : ℕ → ℕ → List (ℕ × ℕ) → List Cert → Type 0
First n m ns cs = (n < m) × IsSome (certificate_of m (stored ns cs)) × ((k : ℕ) → n < k → k < m → certificate_of k (stored ns cs) ≡ None)

first_above : (n m i : ℕ) (ns rest : List (ℕ × ℕ)) (cs : List Cert) → IsStrictlySortedBy nat_cmp (keys_of ns) → filter (λ e. nat_lt n e.0) ns ≡ (m, i) ∷ rest → First n m ns cs
unfolding IsStrictlySortedBy
first_above n m i [] rest cs sorted h = cc
first_above n m i (x ∷ ns) rest cs sorted h = pick (nat_lt n x.0) refl h sorted.0 (λ f. first_above n m i ns rest cs sorted.1 f)
  where
    pick : (b : Bool) → nat_lt n x.0 ≡ b → cond b (x ∷ filter (λ e. nat_lt n e.0) ns) (filter (λ e. nat_lt n e.0) ns) ≡ (m, i) ∷ rest → AllByRecursion (λ y. nat_cmp x.0 y ≡ Less) (keys_of ns)
        → (filter (λ e. nat_lt n e.0) ns ≡ (m, i) ∷ rest → First n m ns cs) → First n m (x ∷ ns) cs
    pick true p h later_keys later =
        let head : x ≡ (m, i) = cc in
        let at : x.0 ≡ m = ap (λ (e : ℕ × ℕ). e.0) head in
        let lt = lt_from n x.0 p in
        let here : certificate_of m (stored (x ∷ ns) cs) ≡ Some (placed cs x.1) = ap (λ b. cond b (Some (placed cs x.1)) (certificate_of m (stored ns cs))) (same m x.0 (sym at)) in
        (omega arith, ap is_some here, λ k up down. let under_x : k < x.0 = omega arith in let other : k ≢ x.0 = omega arith in skip k x ns cs other ∙ below_none k ns cs (under k x.0 (keys_of ns) under_x later_keys))
    pick false p h later_keys later =
        let le = ge_from n x.0 p in
        let r = later h in
        let up : n < m = r.0 in
        let other : m ≢ x.0 = omega arith in
        (r.0, ap is_some (skip m x ns cs other) ∙ r.1, λ k above below. let apart_k : k ≢ x.0 = omega arith in skip k x ns cs apart_k ∙ r.2 k above below)

pub least_none : (n : ℕ) (ns es : List (ℕ × ℕ)) (cs : List Cert) → es ≡ filter (λ e. is_lt (nat_cmp n e.0) && true) ns → es ≡ [] → IsLeastAbove n (stored ns cs) None
least_none n ns es cs e none m lt = none_above n m ns cs (sym (e ∙ filter_is n ns) ∙ none) lt

pub least_some : (n m i : ℕ) (ns es rest : List (ℕ × ℕ)) (cs : List Cert) → IsStrictlySortedBy nat_cmp (keys_of ns) → es ≡ filter (λ e. is_lt (nat_cmp n e.0) && true) ns → es ≡ (m, i) ∷ rest → IsLeastAbove n (stored ns cs) (Some m)
least_some n m i ns es rest cs sorted e first = first_above n m i ns rest cs sorted (sym (e ∙ filter_is n ns) ∙ first)

-- ---- the entries above a number

above_stored : (n : ℕ) (ns : List (ℕ × ℕ)) (cs : List Cert) → above n (stored ns cs) ≡ stored (filter (λ e. nat_lt n e.0) ns) cs
above_stored n [] cs = refl
above_stored n (x ∷ ns) cs =
    ap (λ es. cond (nat_lt n x.0) ((x.0, placed cs x.1) ∷ es) es) (above_stored n ns cs)
    ∙ spread (nat_lt n x.0)
  where
    spread : (b : Bool) → cond b ((x.0, placed cs x.1) ∷ stored (filter (λ e. nat_lt n e.0) ns) cs) (stored (filter (λ e. nat_lt n e.0) ns) cs) ≡ stored (cond b (x ∷ filter (λ e. nat_lt n e.0) ns) (filter (λ e. nat_lt n e.0) ns)) cs
    spread true = refl
    spread false = refl

lt_true : (a b : ℕ) → a < b → nat_lt a b ≡ true
lt_true a b h = grind (arith, nat_tests)

lt_false : (a b : ℕ) → b ≤ a → nat_lt a b ≡ false
lt_false a b h = grind (arith, nat_tests)

keep_all : (n : ℕ) (ns : List (ℕ × ℕ)) → AllByRecursion (λ y. n < y) (keys_of ns) → filter (λ e. nat_lt n e.0) ns ≡ ns
keep_all n [] h = refl
keep_all n (x ∷ ns) h =
    ap (λ b. cond b (x ∷ filter (λ e. nat_lt n e.0) ns) (filter (λ e. nat_lt n e.0) ns)) (lt_true n x.0 h.0) ∙ ap (λ l. x ∷ l) (keep_all n ns h.1)

drop_first : (m : ℕ) (x : ℕ × ℕ) (ns : List (ℕ × ℕ)) → x.0 ≤ m → filter (λ e. nat_lt m e.0) (x ∷ ns) ≡ filter (λ e. nat_lt m e.0) ns
drop_first m x ns le = ap (λ b. cond b (x ∷ filter (λ e. nat_lt m e.0) ns) (filter (λ e. nat_lt m e.0) ns)) (lt_false m x.0 le)

later_keys : (k : ℕ) (ks : List ℕ) → AllByRecursion (λ y. nat_cmp k y ≡ Less) ks → AllByRecursion (λ y. k < y) ks
later_keys k [] h = h
later_keys k (y ∷ ks) h = (less_from k y h.0, later_keys k ks h.1)

filter_next : (n m i : ℕ) (ns rest : List (ℕ × ℕ)) → IsStrictlySortedBy nat_cmp (keys_of ns) → filter (λ e. nat_lt n e.0) ns ≡ (m, i) ∷ rest → (filter (λ e. nat_lt m e.0) ns ≡ rest) × (n < m)
unfolding IsStrictlySortedBy
filter_next n m i [] rest sorted h = cc
filter_next n m i (x ∷ ns) rest sorted h = pick (nat_lt n x.0) refl h sorted.0 (λ f. filter_next n m i ns rest sorted.1 f)
  where
    pick : (b : Bool) → nat_lt n x.0 ≡ b → cond b (x ∷ filter (λ e. nat_lt n e.0) ns) (filter (λ e. nat_lt n e.0) ns) ≡ (m, i) ∷ rest → AllByRecursion (λ y. nat_cmp x.0 y ≡ Less) (keys_of ns)
        → (filter (λ e. nat_lt n e.0) ns ≡ (m, i) ∷ rest → (filter (λ e. nat_lt m e.0) ns ≡ rest) × (n < m)) → (filter (λ e. nat_lt m e.0) (x ∷ ns) ≡ rest) × (n < m)
    pick true p h keys later =
        let head : x ≡ (m, i) = cc in
        let tail : filter (λ e. nat_lt n e.0) ns ≡ rest = cc in
        let at : x.0 ≡ m = ap (λ (e : ℕ × ℕ). e.0) head in
        let lt = lt_from n x.0 p in
        let all_above = under n x.0 (keys_of ns) lt keys in (
          drop_first m x ns (omega arith)
              ∙ ap (λ k. filter (λ e. nat_lt k e.0) ns) (sym at)
              ∙ keep_all x.0 ns (later_keys x.0 (keys_of ns) keys)
              ∙ sym (keep_all n ns all_above)
              ∙ tail,
          omega arith,
        )
    pick false p h keys later =
        let r = later h in
        let le = ge_from n x.0 p in
        let up : n < m = r.1 in
        (drop_first m x ns (omega arith) ∙ r.0, r.1)

pub entry_none : (n : ℕ) (ns es : List (ℕ × ℕ)) (cs : List Cert) → es ≡ filter (λ e. is_lt (nat_cmp n e.0) && true) ns → es ≡ [] → above n (stored ns cs) ≡ []
entry_none n ns es cs e none = above_stored n ns cs ∙ ap (λ l. stored l cs) (sym (e ∙ filter_is n ns) ∙ none)

pub entry_some : (n m i : ℕ) (ns es rest : List (ℕ × ℕ)) (cs : List Cert) (d : tree.Cert) → IsStrictlySortedBy nat_cmp (keys_of ns) → es ≡ filter (λ e. is_lt (nat_cmp n e.0) && true) ns → es ≡ (m, i) ∷ rest → placed cs i ≡ d
    → above n (stored ns cs) ≡ (m, d) ∷ above m (stored ns cs)
entry_some n m i ns es rest cs d sorted e first at =
    let found = sym (e ∙ filter_is n ns) ∙ first in
    above_stored n ns cs
    ∙ ap (λ l. stored l cs) found
    ∙ ap (λ c. (m, c) ∷ stored rest cs) at
    ∙ ap (λ l. (m, d) ∷ stored l cs) (sym (filter_next n m i ns rest sorted found).0)
    ∙ ap (λ l. (m, d) ∷ l) (sym (above_stored m ns cs))

place_first : (n m i k : ℕ) (ns rest : List (ℕ × ℕ)) → list_all (λ e. is_number e.0 && nat_lt e.1 k) ns ≡ true → filter (λ e. nat_lt n e.0) ns ≡ (m, i) ∷ rest → i < k
place_first n m i k [] rest h f = cc
place_first n m i k (x ∷ ns) rest h f =
    let p = and_parts (is_number x.0 && nat_lt x.1 k) (list_all (λ e. is_number e.0 && nat_lt e.1 k) ns) h in
    pick (nat_lt n x.0) f (lt_from x.1 k (and_parts (is_number x.0) (nat_lt x.1 k) p.0).1) (λ g. place_first n m i k ns rest p.1 g)
  where
    pick : (b : Bool) → cond b (x ∷ filter (λ e. nat_lt n e.0) ns) (filter (λ e. nat_lt n e.0) ns) ≡ (m, i) ∷ rest → x.1 < k → (filter (λ e. nat_lt n e.0) ns ≡ (m, i) ∷ rest → i < k) → i < k
    pick true f lt later = let head : x ≡ (m, i) = cc in let at = ap (λ (e : ℕ × ℕ). e.1) head in omega arith
    pick false f lt later = later f

pub entry_place : (n m i : ℕ) (ns es rest : List (ℕ × ℕ)) (cs : List Cert) → is_stored ns cs ≡ true → es ≡ filter (λ e. is_lt (nat_cmp n e.0) && true) ns → es ≡ (m, i) ∷ rest → i < length cs
entry_place n m i ns es rest cs h e first =
    place_first n m i (length cs) ns rest (and_parts (list_all (λ e. is_number e.0 && nat_lt e.1 (length cs)) ns) (list_all (λ c. is_well_formed (plain_cert c)) cs) h).0 (sym (e ∙ filter_is n ns) ∙ first)

above_none : (ns : List (ℕ × ℕ)) (cs : List Cert) (k : ℕ) → list_all (λ e. is_number e.0 && nat_lt e.1 k) ns ≡ true → above 0 (stored ns cs) ≡ stored ns cs
above_none [] cs k h = refl
above_none (x ∷ ns) cs k h =
    let p = and_parts (is_number x.0 && nat_lt x.1 k) (list_all (λ e. is_number e.0 && nat_lt e.1 k) ns) h in
    let q = and_parts (is_number x.0) (nat_lt x.1 k) p.0 in
    let low = le_from 1 x.0 (and_parts (nat_le 1 x.0) (nat_le x.0 999999999) q.0).0 in
    ap (λ b. cond b ((x.0, placed cs x.1) ∷ above 0 (stored ns cs)) (above 0 (stored ns cs))) (lt_true 0 x.0 (omega (arith, low)))
    ∙ ap (λ es. (x.0, placed cs x.1) ∷ es) (above_none ns cs k p.1)

-- all entries are above 0
pub above_zero : (ns : List (ℕ × ℕ)) (cs : List Cert) → is_stored ns cs ≡ true → above 0 (stored ns cs) ≡ stored ns cs
above_zero ns cs h = above_none ns cs (length cs) (and_parts (list_all (λ e. is_number e.0 && nat_lt e.1 (length cs)) ns) (list_all (λ c. is_well_formed (plain_cert c)) cs) h).0
