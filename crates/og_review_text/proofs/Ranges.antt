-- Numbers one after another.
use Rattle.std.proofs.Common.{◌≡◌, ◌∙◌, ◌+◌, ◌-◌, ◌<◌, ◌≤◌, ◌++◌, ℕ, suc, Bool, true, false, cond, List, [], ◌∷◌, ap, sym, append_assoc, arith}
use Rattle.std.specs.Prelude.{filter, flat_map}
use Rattle.std.specs.List.{range_with_len}

pub range_next : (i n : ℕ) → i < n → range_with_len i (n - i) ≡ i ∷ range_with_len (i + 1) (n - (i + 1))
range_next i n lt = let e : n - i ≡ suc (n - (i + 1)) = omega (arith, lt) in ap (range_with_len i) e

pub range_done : (i n : ℕ) → n ≤ i → range_with_len i (n - i) ≡ []
range_done i n h = let e : n - i ≡ 0 = omega (arith, h) in ap (range_with_len i) e

pub filter_next : (p : ℕ → Bool) (i n : ℕ) → i < n → filter p (range_with_len i (n - i)) ≡ cond (p i) (i ∷ filter p (range_with_len (i + 1) (n - (i + 1)))) (filter p (range_with_len (i + 1) (n - (i + 1))))
filter_next p i n lt = ap (filter p) (range_next i n lt)

pub filter_done : (p : ℕ → Bool) (i n : ℕ) → n ≤ i → filter p (range_with_len i (n - i)) ≡ []
filter_done p i n h = ap (filter p) (range_done i n h)

-- a number more is added
pub added_next : (before after whole : List ℕ) (i n : ℕ) → i < n → after ≡ before ++ i ∷ [] → before ++ range_with_len i (n - i) ≡ whole → after ++ range_with_len (i + 1) (n - (i + 1)) ≡ whole
added_next before after whole i n lt made e =
    let later = range_with_len (i + 1) (n - (i + 1)) in
    ap (λ (l : List ℕ). l ++ later) made ∙ (append_assoc before (i ∷ []) later ∙ (ap (λ (l : List ℕ). before ++ l) (sym (range_next i n lt)) ∙ e))

-- one that passes the test is added, and another one is not
pub kept_next : (p : ℕ → Bool) (before after whole : List ℕ) (i n : ℕ) → i < n → p i ≡ true → after ≡ before ++ i ∷ [] → before ++ filter p (range_with_len i (n - i)) ≡ whole
    → after ++ filter p (range_with_len (i + 1) (n - (i + 1))) ≡ whole
kept_next p before after whole i n lt passes made e =
    let later = filter p (range_with_len (i + 1) (n - (i + 1))) in
    ap (λ (l : List ℕ). l ++ later) made
    ∙ (append_assoc before (i ∷ []) later
    ∙ (ap (λ (l : List ℕ). before ++ l) (sym (filter_next p i n lt ∙ ap (λ (b : Bool). cond b (i ∷ later) later) passes)) ∙ e))

pub left_next : (p : ℕ → Bool) (before whole : List ℕ) (i n : ℕ) → i < n → p i ≡ false → before ++ filter p (range_with_len i (n - i)) ≡ whole
    → before ++ filter p (range_with_len (i + 1) (n - (i + 1))) ≡ whole
left_next p before whole i n lt fails e =
    let later = filter p (range_with_len (i + 1) (n - (i + 1))) in
    ap (λ (l : List ℕ). before ++ l) (sym (filter_next p i n lt ∙ ap (λ (b : Bool). cond b (i ∷ later) later) fails)) ∙ e

-- what is made of numbers one after another
pub lines_next : {X : Type 0} (f : ℕ → List X) (i n : ℕ) → i < n → flat_map f (range_with_len i (n - i)) ≡ f i ++ flat_map f (range_with_len (i + 1) (n - (i + 1)))
lines_next f i n lt = ap (flat_map f) (range_next i n lt)

pub lines_done : {X : Type 0} (f : ℕ → List X) (i n : ℕ) → n ≤ i → flat_map f (range_with_len i (n - i)) ≡ []
lines_done f i n h = ap (flat_map f) (range_done i n h)

-- what is made of a number more is added
pub told_next : {X : Type 0} (f : ℕ → List X) (before after whole : List X) (i n : ℕ) → i < n → after ≡ before ++ f i → before ++ flat_map f (range_with_len i (n - i)) ≡ whole
    → after ++ flat_map f (range_with_len (i + 1) (n - (i + 1))) ≡ whole
told_next {X = X} f before after whole i n lt made e =
    let later = flat_map f (range_with_len (i + 1) (n - (i + 1))) in
    ap (λ (l : List X). l ++ later) made ∙ (append_assoc before (f i) later ∙ (ap (λ (l : List X). before ++ l) (sym (lines_next f i n lt)) ∙ e))
