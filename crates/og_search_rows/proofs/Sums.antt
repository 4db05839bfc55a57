-- The value of a list of terms, term by term.
use Rattle.std.proofs.Common.{◌≡◌, ℕ, ◌+◌, ◌<◌, ◌≤◌, ℤ, pos, ◌+ℤ◌, ◌*ℤ◌, List, [], ◌∷◌, ◌++◌, drop, length, get_or, sym, ap, ap₂, ◌∙◌, arith, drop-cons, add-one}
use Rattle.std.proofs.lemmas.Int.{ints}
use Rattle.std.proofs.lemmas.Grind.{common_steps}
use Rattle.std.proofs.Math.IntN.{*ℤ-zero}
use Rattle.og_linear.specs.Linear.{value_at}
use Rattle.og_linear.proofs.Ring.{mul-add, add-mul, mul_assoc}
use Rattle.og_search_rows.specs.declared.inequality.Term.{Term}
use Rattle.og_search_rows.specs.Inequality.{sum_at, part_at}

-- a term more at the end
pub sum_at-push : (ts : List Term) (t : Term) (s : List ℤ) → sum_at (ts ++ t ∷ []) s ≡ sum_at ts s +ℤ part_at t s
sum_at-push [] t s = omega (arith, ints)
sum_at-push (u ∷ ts) t s = ap (λ v. u.coefficient *ℤ value_at s u.var +ℤ v) (sum_at-push ts t s) ∙ omega (arith, ints)

-- the terms from the i-th one on
pub sum_at-drop : (ts : List Term) (s : List ℤ) (i : ℕ) (d : Term) → i < length ts → sum_at (drop i ts) s ≡ part_at (get_or ts i d) s +ℤ sum_at (drop (i + 1) ts) s
sum_at-drop ts s i d h =
    ap (λ us. sum_at us s) (drop-cons ts i d h ∙ ap (λ k. get_or ts i d ∷ drop k ts) (sym (add-one i)))

drop_all : (xs : List Term) (i : ℕ) → length xs ≤ i → drop i xs ≡ []
drop_all xs i h = grind (arith, common_steps)

pub sum_at-drop_all : (ts : List Term) (s : List ℤ) (i : ℕ) → length ts ≤ i → sum_at (drop i ts) s ≡ pos 0
sum_at-drop_all ts s i h = ap (λ us. sum_at us s) (drop_all ts i h)

-- a multiple of one term more
pub put_turn : (ts : List Term) (s : List ℤ) (i : ℕ) (d : Term) (m old new total : ℤ) → i < length ts → new ≡ old +ℤ m *ℤ part_at (get_or ts i d) s → old +ℤ m *ℤ sum_at (drop i ts) s ≡ total → new +ℤ m *ℤ sum_at (drop (i + 1) ts) s ≡ total
put_turn ts s i d m old new total h put inv =
    let part = part_at (get_or ts i d) s in
    let rest = sum_at (drop (i + 1) ts) s in
    let whole : m *ℤ sum_at (drop i ts) s ≡ m *ℤ part +ℤ m *ℤ rest = ap (λ z. m *ℤ z) (sum_at-drop ts s i d h) ∙ mul-add m part rest in
    omega (arith, ints, whole, put, inv)

pub put_end : (ts : List Term) (s : List ℤ) (i : ℕ) (m new total : ℤ) → length ts ≤ i → new +ℤ m *ℤ sum_at (drop i ts) s ≡ total → new ≡ total
put_end ts s i m new total h inv =
    let none : m *ℤ sum_at (drop i ts) s ≡ pos 0 = ap (λ z. m *ℤ z) (sum_at-drop_all ts s i h) ∙ *ℤ-zero m in
    omega (arith, ints, none, inv)

-- the multiple of a term
pub multiple_of : (t : Term) (s : List ℤ) (m k : ℤ) → k ≡ m *ℤ t.coefficient → k *ℤ value_at s t.var ≡ m *ℤ part_at t s
multiple_of t s m k e = ap (λ z. z *ℤ value_at s t.var) e ∙ mul_assoc m t.coefficient (value_at s t.var)

-- the sum of multiples of two terms of one variable
pub both_of : (t u : Term) (s : List ℤ) (m n k : ℤ) → t.var ≡ u.var → k ≡ m *ℤ t.coefficient +ℤ n *ℤ u.coefficient → k *ℤ value_at s t.var ≡ m *ℤ part_at t s +ℤ n *ℤ part_at u s
both_of t u s m n k same e =
    let v = value_at s t.var in
    ap (λ z. z *ℤ v) e
    ∙ add-mul v (m *ℤ t.coefficient) (n *ℤ u.coefficient)
    ∙ ap₂ ◌+ℤ◌ (mul_assoc m t.coefficient v) (mul_assoc n u.coefficient v)
    ∙ ap (λ x. m *ℤ part_at t s +ℤ n *ℤ (u.coefficient *ℤ value_at s x)) same

-- a term divided
pub divide_turn : (ts : List Term) (s : List ℤ) (i : ℕ) (d : Term) (m q old new total : ℤ) → i < length ts → (get_or ts i d).coefficient ≡ m *ℤ q → new ≡ old +ℤ q *ℤ value_at s (get_or ts i d).var → m *ℤ old +ℤ sum_at (drop i ts) s ≡ total → m *ℤ new +ℤ sum_at (drop (i + 1) ts) s ≡ total
divide_turn ts s i d m q old new total h is put inv =
    let t = get_or ts i d in
    let v = value_at s t.var in
    let whole = sum_at-drop ts s i d h in
    let part : t.coefficient *ℤ v ≡ m *ℤ (q *ℤ v) = ap (λ z. z *ℤ v) is ∙ mul_assoc m q v in
    let more : m *ℤ new ≡ m *ℤ old +ℤ m *ℤ (q *ℤ v) = ap (λ z. m *ℤ z) put ∙ mul-add m old (q *ℤ v) in
    omega (arith, ints, whole, part, more, inv)

pub divide_end : (ts : List Term) (s : List ℤ) (i : ℕ) (m new total : ℤ) → length ts ≤ i → m *ℤ new +ℤ sum_at (drop i ts) s ≡ total → total ≡ m *ℤ new
divide_end ts s i m new total h inv =
    let none = sum_at-drop_all ts s i h in
    omega (arith, ints, none, inv)

-- opposite terms sum to 0
pub opposite_turn : (us ws : List Term) (s : List ℤ) (i : ℕ) (d e : Term) (total : ℤ) → i < length us → i < length ws → (get_or us i d).var ≡ (get_or ws i e).var → (get_or us i d).coefficient +ℤ (get_or ws i e).coefficient ≡ pos 0 → sum_at (drop i us) s +ℤ sum_at (drop i ws) s ≡ total → sum_at (drop (i + 1) us) s +ℤ sum_at (drop (i + 1) ws) s ≡ total
opposite_turn us ws s i d e total h l same none inv =
    let t = get_or us i d in
    let u = get_or ws i e in
    let v = value_at s t.var in
    let wa = sum_at-drop us s i d h in
    let wb : sum_at (drop i ws) s ≡ u.coefficient *ℤ v +ℤ sum_at (drop (i + 1) ws) s =
    sum_at-drop ws s i e l ∙ ap (λ x. u.coefficient *ℤ value_at s x +ℤ sum_at (drop (i + 1) ws) s) (sym same) in
    let part : (t.coefficient +ℤ u.coefficient) *ℤ v ≡ t.coefficient *ℤ v +ℤ u.coefficient *ℤ v = add-mul v t.coefficient u.coefficient in
    let nothing : (t.coefficient +ℤ u.coefficient) *ℤ v ≡ pos 0 *ℤ v = ap (λ z. z *ℤ v) none in
    omega (arith, ints, wa, wb, part, nothing, inv)

-- the sum of multiples, its terms and its constant
pub sum_parts : (m n a b c d terms constant : ℤ) → terms ≡ m *ℤ a +ℤ n *ℤ b → constant ≡ m *ℤ c +ℤ n *ℤ d → terms +ℤ constant ≡ m *ℤ (a +ℤ c) +ℤ n *ℤ (b +ℤ d)
sum_parts m n a b c d terms constant e f = omega (arith, ints, e, f, mul-add m a c, mul-add n b d)

-- the sum of two terms of one variable
pub sum_of_both : (t u : Term) (s : List ℤ) (k : ℤ) → t.var ≡ u.var → k ≡ t.coefficient +ℤ u.coefficient → k *ℤ value_at s t.var ≡ part_at t s +ℤ part_at u s
sum_of_both t u s k same e =
    ap (λ z. z *ℤ value_at s t.var) e
    ∙ add-mul (value_at s t.var) t.coefficient u.coefficient
    ∙ ap (λ x. part_at t s +ℤ u.coefficient *ℤ value_at s x) same

-- a single term
pub sum_at-only : (ts : List Term) (t : Term) (s : List ℤ) → length ts ≡ 1 → t ≡ get_or ts 0 t → sum_at ts s ≡ part_at t s
sum_at-only [] t s h e = absurd (omega (arith, h))
sum_at-only (u ∷ []) t s h e = omega (arith, ints, ap (λ w. part_at w s) e)
sum_at-only (u ∷ (w ∷ ts)) t s h e = absurd (omega (arith, h))
