-- The line starts of a text, and what a search among them finds.
use Rattle.std.proofs.Common.{◌≡◌, ◌≢◌, ℕ, zero, suc, ◌+◌, ◌-◌, ◌≤◌, ◌<◌, Bool, true, false, cond, List, [], ◌∷◌, ◌++◌, length, get_or, take, drop, arith, sym, ap, subst, ◌∙◌, refl, add-zero, add-one, length-append, append-nil, take-append-drop, length-take-le, inl, inr}
use Rattle.std.specs.Prelude.{count_by, not, nat_le}
use Rattle.std.specs.List.{suffix_len}
use Rattle.std.specs.List.Sorted.{IsPartitionedBy, IsPartitionPoint}
use Rattle.std.proofs.Math.Seq.{take-suc, get_or-append_seam, get_or-append_right}
use Rattle.std.proofs.Math.ListN.{get_or-append}
use Rattle.std.proofs.lemmas.List.{get_or_default}
use Rattle.std.proofs.lemmas.Bool.{eqb-true}
use Rattle.std.proofs.lemmas.Bool.Decides.{nat_tests}
use Rattle.std.proofs.lemmas.List.Sums.{count_by_more_no, count_by_more_yes, suffix_len-take_no, suffix_len-take_yes, count_by-le-length}
use Rattle.og_text.specs.Place.{is_line_end}
use Rattle.og_text.specs.Lines.{line_starts, line_starts_from, IsIndexOf, IsPlacedBy}

-- the starts of a byte and of the bytes after it
abbrev starts_by : Bool → ℕ → List ℕ → List ℕ
starts_by b at ys = cond b ((at + 1) ∷ line_starts_from (at + 1) ys) (line_starts_from (at + 1) ys)

append_by : (b : Bool) (at : ℕ) (xs ys : List ℕ) → line_starts_from (at + 1) (xs ++ ys) ≡ line_starts_from (at + 1) xs ++ line_starts_from (at + 1 + length xs) ys
    → starts_by b at (xs ++ ys) ≡ starts_by b at xs ++ line_starts_from (at + 1 + length xs) ys
append_by true at xs ys e = ap (λ (zs : List ℕ). (at + 1) ∷ zs) e
append_by false at xs ys e = e

-- the starts of two texts, one after the other
pub line_starts_from-append : (at : ℕ) (xs ys : List ℕ) → line_starts_from at (xs ++ ys) ≡ line_starts_from at xs ++ line_starts_from (at + length xs) ys
line_starts_from-append at [] ys = rw add-zero refl
line_starts_from-append at (x ∷ xs) ys =
    let e : at + 1 + length xs ≡ at + suc (length xs) = omega arith in
    subst (λ (k : ℕ). line_starts_from at (x ∷ xs ++ ys) ≡ line_starts_from at (x ∷ xs) ++ line_starts_from k ys) e (append_by (is_line_end x) at xs ys (line_starts_from-append (at + 1) xs ys))

-- the starts before a place, and those after it
pub starts_parted : (text : List ℕ) (at : ℕ) → at ≤ length text → line_starts text ≡ line_starts (take at text) ++ line_starts_from at (drop at text)
starts_parted text at le =
    let len : 0 + length (take at text) ≡ at = omega (arith, length-take-le at text le) in
    subst (λ (k : ℕ). line_starts text ≡ line_starts (take at text) ++ line_starts_from k (drop at text)) len
    (subst (λ (z : List ℕ). line_starts z ≡ line_starts (take at text) ++ line_starts_from (0 + length (take at text)) (drop at text)) (take-append-drop at text) (line_starts_from-append 0 (take at text) (drop at text)))

-- one byte more
starts_more : (text : List ℕ) (i : ℕ) → i < length text → line_starts (take (i + 1) text) ≡ line_starts (take i text) ++ line_starts_from i (get_or text i 0 ∷ [])
starts_more text i lt =
    let len : 0 + length (take i text) ≡ i = omega (arith, length-take-le i text (omega arith)) in
    let more : take (i + 1) text ≡ take i text ++ get_or text i 0 ∷ [] = rw add-one (take-suc text i 0 lt) in
    ap line_starts more
    ∙ subst (λ (k : ℕ). line_starts (take i text ++ get_or text i 0 ∷ []) ≡ line_starts (take i text) ++ line_starts_from k (get_or text i 0 ∷ [])) len (line_starts_from-append 0 (take i text) (get_or text i 0 ∷ []))

-- a line end more
pub starts_yes : (text : List ℕ) (i : ℕ) → i < length text → get_or text i 0 ≡ 10 → line_starts (take (i + 1) text) ≡ line_starts (take i text) ++ (i + 1) ∷ []
starts_yes text i lt e = starts_more text i lt ∙ ap (λ (b : ℕ). line_starts (take i text) ++ line_starts_from i (b ∷ [])) e

-- another byte more
pub starts_no : (text : List ℕ) (i : ℕ) → i < length text → is_line_end (get_or text i 0) ≡ false → line_starts (take (i + 1) text) ≡ line_starts (take i text)
starts_no text i lt e = starts_more text i lt ∙ (rw e (append-nil (line_starts (take i text))))

-- the same, where the byte is not LF
pub starts_other : (text : List ℕ) (i : ℕ) → i < length text → get_or text i 0 ≢ 10 → line_starts (take (i + 1) text) ≡ line_starts (take i text)
starts_other text i lt ne = starts_no text i lt (grind (arith, nat_tests))

-- the last start, or 0 where there is none
abbrev pub last_start : List ℕ → ℕ
last_start starts = get_or starts (length starts - 1) 0

last_start-push : (xs : List ℕ) (y : ℕ) → last_start (xs ++ y ∷ []) ≡ y
last_start-push xs y =
    let len : length (xs ++ y ∷ []) - 1 ≡ length xs = omega (arith, length-append xs (y ∷ [])) in
    rw len (get_or-append_seam xs y [] 0)

last_start-none : (xs : List ℕ) → length xs ≡ 0 → last_start xs ≡ 0
last_start-none [] e = refl
last_start-none (x ∷ xs) e = absurd (omega arith)

abbrev not_end : ℕ → Bool
not_end b = not (is_line_end b)

-- the starts among the first bytes give the line and the column after them
pub record Placed (text : List ℕ) (i : ℕ) : Type 0 where
  pub line : count_by is_line_end (take i text) ≡ length (line_starts (take i text))
  pub column : suffix_len not_end (take i text) + last_start (line_starts (take i text)) ≡ i

placed_more : (text : List ℕ) (i : ℕ) → i < length text → (b : Bool) → is_line_end (get_or text i 0) ≡ b → Placed text i → Placed text (i + 1)
placed_more text i lt true e p =
    let s = starts_yes text i lt (eqb-true (get_or text i 0) 10 e) in
    let same : i + 1 - 1 ≡ i = omega arith in
    let ends : not_end (get_or text (i + 1 - 1) 0) ≡ false = rw (same, e) refl in
    let none : suffix_len not_end (take (i + 1) text) ≡ 0 = suffix_len-take_no not_end text (i + 1) 0 (omega arith) (omega arith) ends in
    record {
      line = omega (arith, count_by_more_yes is_line_end text i 0 lt e, ap length s, length-append (line_starts (take i text)) ((i + 1) ∷ []), p.line);
      column = omega (arith, none, ap last_start s, last_start-push (line_starts (take i text)) (i + 1));
    }
placed_more text i lt false e p =
    let s = starts_no text i lt e in
    let same : i + 1 - 1 ≡ i = omega arith in
    let goes_on : not_end (get_or text (i + 1 - 1) 0) ≡ true = rw (same, e) refl in
    let more : suffix_len not_end (take (i + 1) text) ≡ 1 + suffix_len not_end (take (i + 1 - 1) text) = suffix_len-take_yes not_end text (i + 1) 0 (omega arith) (omega arith) goes_on in
    record {
      line = omega (arith, count_by_more_no is_line_end text i 0 lt e, ap length s, p.line);
      column = omega (arith, more, ap (λ (k : ℕ). suffix_len not_end (take k text)) same, ap last_start s, p.column);
    }

-- the starts among the first bytes place every offset
pub placed : (text : List ℕ) (i : ℕ) → i ≤ length text → Placed text i
placed text zero le = record { line = refl; column = refl }
placed text (suc i) le = subst (Placed text) (add-one i) (placed_more text i (omega arith) (is_line_end (get_or text i 0)) refl (placed text i (omega arith)))

-- above the one number, and at most the other
abbrev pub IsBetween : ℕ → ℕ → ℕ → Type 0
IsBetween low high n = (low < n) × (n ≤ high)

between_by : (b : Bool) (at : ℕ) (xs : List ℕ) → ((k : ℕ) → k < length (line_starts_from (at + 1) xs) → IsBetween (at + 1) (at + 1 + length xs) (get_or (line_starts_from (at + 1) xs) k 0))
    → (k : ℕ) → k < length (starts_by b at xs) → IsBetween at (at + suc (length xs)) (get_or (starts_by b at xs) k 0)
between_by true at xs h zero lt = (omega arith, omega arith)
between_by true at xs h (suc k) lt = let n = h k (omega arith) in (omega (arith, n.0), omega (arith, n.1))
between_by false at xs h k lt = let n = h k lt in (omega (arith, n.0), omega (arith, n.1))

-- each start lies after a byte of the text
pub starts_between : (at : ℕ) (xs : List ℕ) (k : ℕ) → k < length (line_starts_from at xs) → IsBetween at (at + length xs) (get_or (line_starts_from at xs) k 0)
starts_between at [] k lt = absurd (omega arith)
starts_between at (x ∷ xs) k lt = between_by (is_line_end x) at xs (starts_between (at + 1) xs) k lt

-- the numbers of a list up to one, and then those above it
pub record IsParted (front back : List ℕ) (at : ℕ) : Type 0 where
  pub low : (k : ℕ) → k < length front → get_or front k 0 ≤ at
  pub high : (k : ℕ) → k < length back → at < get_or back k 0

-- an element of the front is low
pub is_low : (front back : List ℕ) (at k : ℕ) → IsParted front back at → k < length front → get_or (front ++ back) k 0 ≤ at
is_low front back at k p lt = omega (arith, get_or-append front back 0 k lt, p.low k lt)

-- an element after the front is high
pub is_high : (front back : List ℕ) (at k : ℕ) → IsParted front back at → length front ≤ k → k < length (front ++ back) → at < get_or (front ++ back) k 0
is_high front back at k p le lt = omega (arith, get_or-append_right front back k 0 le, p.high (k - length front) (omega (arith, length-append front back)))

-- the starts up to a place, and those after it
pub parted : (text : List ℕ) (at : ℕ) → at ≤ length text → IsParted (line_starts (take at text)) (line_starts_from at (drop at text)) at
parted text at le = record {
  low = λ k lt. omega (arith, (starts_between 0 (take at text) k lt).1, length-take-le at text le);
  high = λ k lt. (starts_between at (drop at text) k lt).0;
}

-- the numbers up to one come first
pub IsPartitionedBy-parted : (front back : List ℕ) (at : ℕ) → IsParted front back at → IsPartitionedBy (λ s. nat_le s at) (front ++ back)
IsPartitionedBy-parted front back at p i j d le lt passes =
    let low : get_or (front ++ back) j d ≤ at = grind (arith, nat_tests) in
    let zero_j : get_or (front ++ back) j d ≡ get_or (front ++ back) j 0 = get_or_default (front ++ back) j d 0 lt in
    let past : length front ≤ j → ⊥ = λ h. omega (arith, is_high front back at j p h lt) in
    let inside : j < length front = omega (arith, past) in
    let low_i : get_or (front ++ back) i 0 ≤ at = is_low front back at i p (omega arith) in
    let zero_i : get_or (front ++ back) i d ≡ get_or (front ++ back) i 0 = get_or_default (front ++ back) i d 0 (omega arith) in
    let passes_i : get_or (front ++ back) i d ≤ at = omega arith in
    grind (arith, nat_tests)

-- they end at the partition point
pub IsPartitionPoint-parted : (front back : List ℕ) (at r : ℕ) → IsParted front back at → r ≤ length (front ++ back)
    → IsPartitionPoint (λ s. nat_le s at ≡ true) (λ s. nat_le s at ≡ false) (front ++ back) r → r ≡ length front
IsPartitionPoint-parted front back at r p bound point =
    let below : r < length front → ⊥ = λ h. let e = point.1 r 0 (omega arith) (omega (arith, length-append front back)) in let low = is_low front back at r p h in grind (arith, nat_tests) in
    let above : length front < r → ⊥ = λ h. let e = point.0 (length front) 0 (omega arith) h in let high = is_high front back at (length front) p (omega arith) (omega arith) in grind (arith, nat_tests) in
    omega (arith, below, above)

-- the starts up to a place come first
pub starts_partitioned : (text starts : List ℕ) (at : ℕ) → IsIndexOf text starts → at ≤ length text → IsPartitionedBy (λ s. nat_le s at) starts
starts_partitioned text starts at is le =
    let same = is.starts_are ∙ starts_parted text at le in
    subst (λ (z : List ℕ). IsPartitionedBy (λ s. nat_le s at) z) (sym same) (IsPartitionedBy-parted (line_starts (take at text)) (line_starts_from at (drop at text)) at (parted text at le))

-- the partition point of the starts places the offset
pub placed_by : (text starts : List ℕ) (at r : ℕ) → IsIndexOf text starts → at ≤ length text → r ≤ length starts
    → IsPartitionPoint (λ s. nat_le s at ≡ true) (λ s. nat_le s at ≡ false) starts r → IsPlacedBy text starts at r
placed_by text starts at r is le bound point =
    let front = line_starts (take at text) in
    let back = line_starts_from at (drop at text) in
    let same : starts ≡ front ++ back = is.starts_are ∙ starts_parted text at le in
    let point_there = subst (λ (z : List ℕ). IsPartitionPoint (λ s. nat_le s at ≡ true) (λ s. nat_le s at ≡ false) z r) same point in
    let count : r ≡ length front = IsPartitionPoint-parted front back at r (parted text at le) (omega (arith, ap length same)) point_there in
    let p = placed text at le in
    let here : (start : ℕ) → 0 < r → start ≡ get_or starts (r - 1) start → start ≡ last_start front = λ start some is_start.
    is_start ∙ get_or_default starts (r - 1) start 0 (omega arith) ∙ ap (λ (z : List ℕ). get_or z (r - 1) 0) same ∙ get_or-append front back 0 (r - 1) (omega arith) ∙ ap (λ (k : ℕ). get_or front (k - 1) 0) count in
    record {
      line = omega (arith, count, p.line);
      column = λ start is_start. elim is_start [
        | inl h ↦ omega (arith, p.column, h.1, last_start-none front (omega arith))
        | inr h ↦ omega (arith, p.column, here start h.0 h.1)
      ];
      few = omega (arith, count, p.line, count_by-le-length is_line_end (take at text), length-take-le at text le);
    }
