-- Rows that follow from facts, as rows are added.
use Rattle.std.proofs.Common.{◌≡◌, ℕ, zero, suc, ◌+◌, ◌<◌, ◌≤◌, ℤ, pos, ◌+ℤ◌, ◌*ℤ◌, List, [], ◌∷◌, ◌++◌, Bool, true, false, Option, Some, None, length, drop, get_or, refl, sym, ap, ap₂, subst, ◌∙◌, arith, length-append, drop-cons, add-one}
use Rattle.std.specs.Prelude.{◌≤ℤ◌, ◌<ℤ◌, ◌↔◌, IfSome, slice_get, nat_lt, ◌==◌}
use Rattle.std.proofs.lemmas.Int.{ints}
use Rattle.std.proofs.lemmas.Bool.{ltb-true, ltb-false, eqb-true, eqb-false}
use Rattle.std.proofs.lemmas.Option.{slice_get_past}
use Rattle.og_search_rows.specs.declared.inequality.Inequality.{Inequality}
use Rattle.og_search_rows.specs.declared.rows.Row.{Row}
use Rattle.og_search_rows.specs.declared.rows.Summand.{Summand}
use Rattle.og_search_rows.specs.Inequality.{sum_at, left_side, Holds}
use Rattle.og_search_rows.specs.Rows.{is_given, HoldsAt, FactsHold, AllFollow, Extends, IsRowOf, IsJustified, AddsRowOf, weighted, left_of}
use Rattle.og_search_rows.specs.declared.rows.Added.{Added}
use Rattle.og_search_rows.specs.declared.rows.Added.TheVariants as added
use Rattle.og_search_rows.proofs.Limits.{mul_up}

get_before : (rows : List Row) (r : Row) (i : ℕ) → i < length rows → slice_get (rows ++ r ∷ []) i ≡ slice_get rows i
get_before [] r i h = absurd (omega (arith, h))
get_before (q ∷ rows) r zero h = refl
get_before (q ∷ rows) r (suc i) h = get_before rows r i (omega (arith, h))

get_last : (rows : List Row) (r : Row) → slice_get (rows ++ r ∷ []) (length rows) ≡ Some r
get_last [] r = refl
get_last (q ∷ rows) r = get_last rows r

longer : (rows : List Row) (r : Row) → length (rows ++ r ∷ []) ≡ length rows + 1
longer rows r = length-append rows (r ∷ [])

pub extends_push : (rows : List Row) (r : Row) → Extends rows (rows ++ r ∷ [])
extends_push rows r = (omega (arith, longer rows r), get_before rows r)

pub row_push : (rows : List Row) (r : Row) → IsRowOf (rows ++ r ∷ []) (length rows) (Holds r.form)
row_push rows r = (omega (arith, longer rows r), λ s. subst (λ (o : Option Row). IfSome o (λ q. Holds q.form s) ↔ Holds r.form s) (sym (get_last rows r)) ((λ h. h), (λ h. h)))

by_below : {P : Type 0} (i n : ℕ) → (i < n → P) → (n ≤ i → P) → P
by_below {P} i n below above = go (nat_lt i n) refl
  where
    go : (b : Bool) → nat_lt i n ≡ b → P
    go true e = below (ltb-true i n e)
    go false e = above (ltb-false i n e)

-- three ways for two numbers
three : {P : Type 0} (i n : ℕ) → (i < n → P) → (i ≡ n → P) → (n < i → P) → P
three {P} i n below same above = go (nat_lt i n) refl
  where
    at : (b : Bool) → (i == n) ≡ b → (n ≤ i) → P
    at true e h = same (eqb-true i n e)
    at false e h =
        let other = eqb-false i n e in
        above (omega (arith, other, h))

    go : (b : Bool) → nat_lt i n ≡ b → P
    go true e = below (ltb-true i n e)
    go false e = at (i == n) refl (ltb-false i n e)

pub follow_push : (rows : List Row) (r : Row) → AllFollow rows → IsJustified rows r.form r.origin → AllFollow (rows ++ r ∷ [])
follow_push rows r follow just i s proper facts =
    three i (length rows)
    (λ h. subst (λ (o : Option Row). IfSome o (λ q. Holds q.form s)) (sym (get_before rows r i h)) (follow i s proper (older i (omega arith) h)))
    (λ e. subst (λ k. HoldsAt (rows ++ r ∷ []) k s) (sym e)
    (subst (λ (o : Option Row). IfSome o (λ q. Holds q.form s)) (sym (get_last rows r))
    (just s proper (all (omega (arith, e))) (subst (λ (o : Option Row). IfSome o (λ q. is_given q.origin ≡ true → Holds q.form s)) (get_last rows r) (facts (length rows) (omega (arith, e)))))))
    (λ h. subst (λ (o : Option Row). IfSome o (λ q. Holds q.form s)) (sym (slice_get_past (rows ++ r ∷ []) i (omega (arith, longer rows r, h)))) tt)
  where
    older : (k : ℕ) → k ≤ i → k < length rows → FactsHold rows k s
    older k l h j m =
        let within : j < length rows = omega (arith, m, h) in
        subst (λ (o : Option Row). IfSome o (λ q. is_given q.origin ≡ true → Holds q.form s)) (get_before rows r j within) (facts j (omega (arith, m, l)))

    all : length rows ≤ i → (k : ℕ) → HoldsAt rows k s
    all l k =
        by_below k (length rows)
        (λ h. follow k s proper (older k (omega (arith, h, l)) h))
        (λ h. subst (λ (o : Option Row). IfSome o (λ q. Holds q.form s)) (sym (slice_get_past rows k h)) tt)

-- ---- rows by their left sides

pub holds_by_left : (o : Option Row) (s : List ℤ) (z : ℤ) → z ≡ left_of o s → z ≤ℤ pos 0 → IfSome o (λ r. Holds r.form s)
holds_by_left None s z e h = tt
holds_by_left (Some r) s z e h = subst (λ w. w ≤ℤ pos 0) e h

pub left_by_holds : (o : Option Row) (s : List ℤ) (z : ℤ) → z ≡ left_of o s → IfSome o (λ r. Holds r.form s) → z ≤ℤ pos 0
left_by_holds None s z e h = omega (arith, ints, e)
left_by_holds (Some r) s z e h = subst (λ w. w ≤ℤ pos 0) (sym e) h

-- ---- sums of multiples of rows

pub weighted-drop : (rows : List Row) (sum : List Summand) (s : List ℤ) (i : ℕ) (d : Summand) → i < length sum → weighted rows (drop i sum) s ≡ pos (get_or sum i d).times *ℤ left_of (slice_get rows (get_or sum i d).row) s +ℤ weighted rows (drop (i + 1) sum) s
weighted-drop rows sum s i d h =
    ap (λ ps. weighted rows ps s) (drop-cons sum i d h ∙ ap (λ k. get_or sum i d ∷ drop k sum) (sym (add-one i)))

pub weighted_below : (rows : List Row) (sum : List Summand) (s : List ℤ) → ((i : ℕ) → HoldsAt rows i s) → weighted rows sum s ≤ℤ pos 0
weighted_below rows [] s all = omega (arith, ints)
weighted_below rows (p ∷ ps) s all =
    let left = left_of (slice_get rows p.row) s in
    let below = left_by_holds (slice_get rows p.row) s left refl (all p.row) in
    let product = mul_up (pos p.times) left (pos 0) (omega (arith, ints)) below in
    let none : pos p.times *ℤ pos 0 ≡ pos 0 = omega (arith, ints) in
    omega (arith, ints, product, none, weighted_below rows ps s all)

pub holds_iff_left : (o : Option Row) (s : List ℤ) (z : ℤ) → z ≡ left_of o s → (z ≤ℤ pos 0) ↔ IfSome o (λ r. Holds r.form s)
holds_iff_left o s z e = (holds_by_left o s z e, left_by_holds o s z e)

-- a constant above 0 holds of no state
pub false_everywhere : (f : Inequality) (s : List ℤ) → f.terms.items ≡ [] → pos 0 <ℤ f.constant → Holds f s → ⊥
false_everywhere f s none above h =
    let sum : sum_at f.terms.items s ≡ pos 0 = ap (λ ts. sum_at ts s) none in
    omega (arith, ints, sum, above, h)

pub total_turn : (rows : List Row) (sum : List Summand) (s : List ℤ) (i : ℕ) (d : Summand) (m n a b next total : ℤ) → i < length sum → m ≡ pos 1 → n ≡ pos (get_or sum i d).times → b ≡ left_of (slice_get rows (get_or sum i d).row) s → next ≡ m *ℤ a +ℤ n *ℤ b → a +ℤ weighted rows (drop i sum) s ≡ total → next +ℤ weighted rows (drop (i + 1) sum) s ≡ total
total_turn rows sum s i d m n a b next total h one times left is inv =
    let first : m *ℤ a ≡ pos 1 *ℤ a = ap (λ z. z *ℤ a) one in
    let alone : pos 1 *ℤ a ≡ a = omega (arith, ints) in
    let second : n *ℤ b ≡ pos (get_or sum i d).times *ℤ left_of (slice_get rows (get_or sum i d).row) s = ap₂ ◌*ℤ◌ times left in
    omega (arith, ints, first, alone, second, is, inv, weighted-drop rows sum s i d h)

pub two_of : (rows : List Row) (p q : Summand) (s : List ℤ) (m n a b left : ℤ) → m ≡ pos p.times → n ≡ pos q.times → a ≡ left_of (slice_get rows p.row) s → b ≡ left_of (slice_get rows q.row) s → left ≡ m *ℤ a +ℤ n *ℤ b → left ≡ weighted rows (p ∷ q ∷ []) s
two_of rows p q s m n a b left em en ea eb is =
    let first : m *ℤ a ≡ pos p.times *ℤ left_of (slice_get rows p.row) s = ap₂ ◌*ℤ◌ em ea in
    let second : n *ℤ b ≡ pos q.times *ℤ left_of (slice_get rows q.row) s = ap₂ ◌*ℤ◌ en eb in
    omega (arith, ints, first, second, is)

-- a sum of multiples of rows follows from these
pub sum_justified : (rows : List Row) (sum : List Summand) (f : Inequality) (s : List ℤ) → left_side f s ≡ weighted rows sum s → ((i : ℕ) → HoldsAt rows i s) → left_side f s ≤ℤ pos 0
sum_justified rows sum f s e all = subst (λ z. z ≤ℤ pos 0) (sym e) (weighted_below rows sum s all)

pub adds_row_iff : (rows : List Row) (a : Added) (P Q : List ℤ → Type 0) → ((s : List ℤ) → P s ↔ Q s) → AddsRowOf rows a P → AddsRowOf rows a Q
adds_row_iff rows (added.Row i) P Q same r = (r.0, λ s. ((λ h. (same s).0 ((r.1 s).0 h)), (λ h. (r.1 s).1 ((same s).1 h))))
adds_row_iff rows added.Nothing P Q same r = tt

pub same_bound : (x y : ℤ) → x ≡ y → (x ≤ℤ pos 0) ↔ (y ≤ℤ pos 0)
same_bound x y e = (subst (λ z. z ≤ℤ pos 0) e, subst (λ z. z ≤ℤ pos 0) (sym e))
