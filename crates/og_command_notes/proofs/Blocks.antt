-- Two blocks as one.
use Rattle.std.proofs.Common.{◌≡◌, ◌∙◌, ℕ, zero, suc, ◌<◌, ◌≤◌, ◌⊎◌, inl, inr, List, [], ◌∷◌, ◌++◌, length, get_or, refl, sym, ap, subst, arith}
use Rattle.std.specs.Prelude.{slice_get, Option, Some, None, option_map}
use Rattle.std.proofs.lemmas.Option.{slice_get-map}
use Rattle.std.proofs.lemmas.Bool.{cases_lt}
use Rattle.std.proofs.lemmas.List.Elements.{All-pop, All-push, All-same}
use Rattle.og_review_text.specs.Points.{Point}
use Rattle.og_review_text.specs.Seen.{point_of, points_of}
use Rattle.og_command_notes.specs.Together.{AreApart, AreApartIn, AreBlocks, IsBlock, across, down, JoinsColumns, JoinsRows}
use Rattle.og_command_notes.specs.declared.together.Block.{Block}
use Rattle.og_review_text.specs.declared.walk.Point as walk

-- places of the second, under the numbers of the first
renamed : (ps : List Point) (a b : Block) (i k : ℕ) → a.one ≡ b.one → a.other ≡ b.other → AreApartIn b.one b.other (slice_get ps i) (slice_get ps k) → AreApartIn a.one a.other (slice_get ps i) (slice_get ps k)
renamed ps a b i k one other h =
    subst (λ (p : ℕ). AreApartIn p a.other (slice_get ps i) (slice_get ps k)) (sym one) (subst (λ (q : ℕ). AreApartIn b.one q (slice_get ps i) (slice_get ps k)) (sym other) h)

apart_across : (ps : List Point) (a b c : Block) → IsBlock ps a → IsBlock ps b → JoinsColumns a b c → (i k : ℕ) → a.rows.from ≤ i → i ≤ a.rows.to → a.columns.from ≤ k → k ≤ b.columns.to → AreApartIn a.one a.other (slice_get ps i) (slice_get ps k)
apart_across ps a b c x y j i k l m n o = go (cases_lt a.columns.to k)
  where
    go : (a.columns.to < k) ⊎ (k ≤ a.columns.to) → AreApartIn a.one a.other (slice_get ps i) (slice_get ps k)
    go (inl h) =
        let from = j.same.0 in
        let to = j.same.1 in
        let next = j.next in
        renamed ps a b i k j.one j.other (y.apart i k (omega (arith, from, l)) (omega (arith, to, m)) (omega (arith, next, h)) o)
    go (inr h) = x.apart i k l m n h

pub joined_columns : (ps : List Point) (a b c : Block) → IsBlock ps a → IsBlock ps b → JoinsColumns a b c → IsBlock ps c
joined_columns ps a b c x y j =
    let next = j.next in
    let first = x.columns in
    let second = y.columns in
    let whole : IsBlock ps (across a b) = record { rows = x.rows; columns = omega (arith, next, first, second); apart = apart_across ps a b c x y j } in
    subst (IsBlock ps) (sym j.joined) whole

-- the last block of a row takes one more place
pub taken : (ps : List Point) (old before new : List Block) (last block whole : Block) → AreBlocks ps old → old ≡ before ++ last ∷ [] → IsBlock ps block → JoinsColumns last block whole → new ≡ before ++ whole ∷ [] → AreBlocks ps new
taken ps old before new last block whole all is one j made =
    let parts = All-pop (IsBlock ps) old before (Some last) is all in
    All-same (IsBlock ps) new (before ++ whole ∷ []) made (All-push (IsBlock ps) before whole parts.0 (joined_columns ps last block whole parts.1 one j))

apart_down : (ps : List Point) (a b c : Block) → IsBlock ps a → IsBlock ps b → JoinsRows a b c → (i k : ℕ) → a.rows.from ≤ i → i ≤ b.rows.to → a.columns.from ≤ k → k ≤ a.columns.to → AreApartIn a.one a.other (slice_get ps i) (slice_get ps k)
apart_down ps a b c x y j i k l m n o = go (cases_lt a.rows.to i)
  where
    go : (a.rows.to < i) ⊎ (i ≤ a.rows.to) → AreApartIn a.one a.other (slice_get ps i) (slice_get ps k)
    go (inl h) =
        let from = j.same.0 in
        let to = j.same.1 in
        let next = j.next in
        renamed ps a b i k j.one j.other (y.apart i k (omega (arith, next, h)) m (omega (arith, from, n)) (omega (arith, to, o)))
    go (inr h) = x.apart i k l h n o

pub joined_rows : (ps : List Point) (a b c : Block) → IsBlock ps a → IsBlock ps b → JoinsRows a b c → IsBlock ps c
joined_rows ps a b c x y j =
    let next = j.next in
    let first = x.rows in
    let second = y.rows in
    let whole : IsBlock ps (down a b) = record { rows = omega (arith, next, first, second); columns = x.columns; apart = apart_down ps a b c x y j } in
    subst (IsBlock ps) (sym j.joined) whole

-- ---- one place each

got : {X : Type 0} (xs : List X) (i : ℕ) (x : X) → i < length xs → x ≡ get_or xs i x → slice_get xs i ≡ Some x
got [] i x lt is = absurd (omega (arith, lt))
got (y ∷ ys) zero x lt is = ap (λ z. Some z) (sym is)
got (y ∷ ys) (suc i) x lt is = got ys i x (omega (arith, lt)) is

missed : {X : Type 0} (xs : List X) (i : ℕ) → length xs ≤ i → slice_get xs i ≡ None
missed [] i h = refl
missed (y ∷ ys) zero h = absurd (omega (arith, h))
missed (y ∷ ys) (suc i) h = missed ys i (omega (arith, h))

-- the place with a number, and none beyond the last
pub point_at : (points : List walk.Point) (i : ℕ) (p : walk.Point) → i < length points → p ≡ get_or points i p → slice_get (points_of points) i ≡ Some (point_of p)
point_at points i p lt is = slice_get-map point_of points i ∙ ap (option_map point_of) (got points i p lt is)

pub no_point_at : (points : List walk.Point) (i : ℕ) → length points ≤ i → slice_get (points_of points) i ≡ None
no_point_at points i h = slice_get-map point_of points i ∙ ap (option_map point_of) (missed points i h)

-- two places that exclude each other are a block
pub one_block : (points : List walk.Point) (i j one other : ℕ) (p q : walk.Point) → i < length points → j < length points → p ≡ get_or points i p → q ≡ get_or points j q → AreApart one other (point_of p) (point_of q)
    → IsBlock (points_of points) (record { one = one; rows = record { from = i; to = i }; other = other; columns = record { from = j; to = j } })
one_block points i j one other p q l m is there h = record {
  rows = omega arith;
  columns = omega arith;
  apart = λ a b k n o r.
      let first : i ≡ a = omega (arith, k, n) in
      let second : j ≡ b = omega (arith, o, r) in
      let here : AreApartIn one other (slice_get (points_of points) i) (slice_get (points_of points) j) =
      subst (λ (x : Option Point). AreApartIn one other x (slice_get (points_of points) j)) (sym (point_at points i p l is))
      (subst (λ (y : Option Point). AreApartIn one other (Some (point_of p)) y) (sym (point_at points j q m there)) h) in
      subst (λ (x : ℕ). AreApartIn one other (slice_get (points_of points) x) (slice_get (points_of points) b)) first
      (subst (λ (y : ℕ). AreApartIn one other (slice_get (points_of points) i) (slice_get (points_of points) y)) second here);
}
