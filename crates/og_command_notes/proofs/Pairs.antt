-- How many pairs of places are compared.
use Rattle.std.proofs.Common.{◌≡◌, ◌∙◌, ◌+◌, ◌-◌, ◌<◌, ◌≤◌, ◌⊎◌, inl, inr, ℕ, List, [], ◌∷◌, length, get_or, drop, drop_of_length-le, refl, sym, ap, arith}
use Rattle.std.specs.Prelude.{◌==◌, Option, Some, None, slice_get}
use Rattle.std.proofs.lemmas.Bool.{cases_lt, eq-eqb, ne_eqb, lt-ltb, le-ltb}
use Rattle.std.proofs.lemmas.List.{drop_more}
use Rattle.std.proofs.lemmas.Option.{slice_get-get_or}
use Rattle.og_review_text.specs.Points.{Point}
use Rattle.og_review_text.specs.Seen.{point_of, points_of}
use Rattle.og_review_text.specs.declared.walk.Point as walk
use Rattle.og_command_notes.proofs.Blocks.{point_at}
use Rattle.og_command_notes.specs.Together.{pair, pairs_with, pair_count, are_many, pair_in, pairs_in}

-- ---- the pairs of one place

-- two places with their numbers
pub pair_at : (points : List walk.Point) (i j : ℕ) (p q : walk.Point) (before after : ℕ) → i < length points → j < length points → p ≡ get_or points i p → q ≡ get_or points j q → after ≡ before - pair (point_of p) (point_of q)
    → after ≡ before - pair_in (slice_get (points_of points) i) (slice_get (points_of points) j)
pair_at points i j p q before after l m is there made =
    made
    ∙ (ap (λ (o : Option Point). before - pair_in o (Some (point_of q))) (sym (point_at points i p l is))
    ∙ ap (λ (o : Option Point). before - pair_in (slice_get (points_of points) i) o) (sym (point_at points j q m there)))

row_more : (o : Option Point) (ps : List Point) (i : ℕ) → i < length ps → pairs_in o (drop i ps) ≡ pair_in o (slice_get ps i) + pairs_in o (drop (i + 1) ps)
row_more None ps i lt = refl
row_more (Some p) ps i lt =
    ap (pairs_with p) (drop_more ps i p lt) ∙ ap (λ (q : Option Point). pair_in (Some p) q + pairs_with p (drop (i + 1) ps)) (sym (slice_get-get_or ps i p lt))

pub row_left : (o : Option Point) (ps : List Point) (i before after whole : ℕ) → i < length ps → after ≡ before - pair_in o (slice_get ps i) → before - pairs_in o (drop i ps) ≡ whole → after - pairs_in o (drop (i + 1) ps) ≡ whole
row_left o ps i before after whole lt made e = let more = row_more o ps i lt in omega (arith, more, made, e)

none_in : (o : Option Point) → pairs_in o [] ≡ 0
none_in None = refl
none_in (Some p) = refl

pub row_done : (o : Option Point) (ps : List Point) (i left whole : ℕ) → length ps ≤ i → left - pairs_in o (drop i ps) ≡ whole → left ≡ whole
row_done o ps i left whole le e =
    let none = ap (pairs_in o) (drop_of_length-le ps le) ∙ none_in o in omega (arith, none, e)

-- ---- the pairs of all places

all_from : (ps : List Point) (i : ℕ) (d : Point) → i < length ps → pair_count (drop i ps) ≡ pairs_in (slice_get ps i) (drop (i + 1) ps) + pair_count (drop (i + 1) ps)
all_from ps i d lt =
    ap pair_count (drop_more ps i d lt) ∙ ap (λ (o : Option Point). pairs_in o (drop (i + 1) ps) + pair_count (drop (i + 1) ps)) (sym (slice_get-get_or ps i d lt))

all_more : (ps : List Point) (i : ℕ) → i < length ps → pair_count (drop i ps) ≡ pairs_in (slice_get ps i) (drop (i + 1) ps) + pair_count (drop (i + 1) ps)
all_more [] i lt = absurd (omega (arith, lt))
all_more (p ∷ ps) i lt = all_from (p ∷ ps) i p lt

pub all_left : (ps : List Point) (i before after whole : ℕ) → i < length ps → after ≡ before - pairs_in (slice_get ps i) (drop (i + 1) ps) → before - pair_count (drop i ps) ≡ whole
    → after - pair_count (drop (i + 1) ps) ≡ whole
all_left ps i before after whole lt made e = let more = all_more ps i lt in omega (arith, more, made, e)

pub all_done : (ps : List Point) (i left whole : ℕ) → length ps ≤ i → left - pair_count (drop i ps) ≡ whole → left ≡ whole
all_done ps i left whole le e =
    let none = ap pair_count (drop_of_length-le ps le) in omega (arith, none, e)

-- all of the pairs but the last come to comparison
pub is_cut : (ps : List Point) (left : ℕ) → left ≡ 20001 - pair_count ps → (left == 0) ≡ are_many ps
is_cut ps left e = go (cases_lt 20000 (pair_count ps))
  where
    go : (20000 < pair_count ps) ⊎ (pair_count ps ≤ 20000) → (left == 0) ≡ are_many ps
    go (inl lt) = eq-eqb left 0 (omega (arith, e, lt)) ∙ sym (lt-ltb 20000 (pair_count ps) lt)
    go (inr le) = ne_eqb left 0 (λ z. omega (arith, e, le, z)) ∙ sym (le-ltb 20000 (pair_count ps) le)

-- where no more are left, there are more, however many were not met
pub none_left : (left rest whole : ℕ) → left ≡ 0 → left - rest ≡ whole → left ≡ whole
none_left left rest whole z e = omega (arith, z, e)
