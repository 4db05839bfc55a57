-- Where lines begin, and what a search among the beginnings finds.
use Rattle.std.proofs.Common.{◌≡◌, ℕ, zero, suc, ◌+◌, ◌-◌, ◌≤◌, ◌<◌, ◌⊎◌, Bool, true, false, cond, List, [], ◌∷◌, ◌++◌, length, get_or, arith, sym, ap, subst, ◌∙◌, refl, add-one, length-append, append-nil, append_assoc, inl, inr}
use Rattle.std.specs.Prelude.{nat_le}
use Rattle.std.specs.List.Sorted.{IsPartitionedBy, IsPartitionPoint}
use Rattle.std.proofs.lemmas.List.{get_or_append_left, get_or-append_right, get_or_push, length_push}
use Rattle.std.proofs.lemmas.Bool.{cases_lt, lt-ltb, le-ltb}
use Rattle.og_text.proofs.Starts.{IsParted, IsPartitionedBy-parted, IsPartitionPoint-parted}
use Rattle.og_lsp_text.specs.Positions.{ends_line, line_of, line_start}
use Rattle.og_lsp_text.specs.Starts.{starts_of, start_at, last_at, IsLineOf}

-- ---- the beginnings among the first bytes

-- so many lines end, and the last of them where the next begins
pub record AreStarts (starts : List ℕ) (line start at : ℕ) : Type 0 where
  pub count : length starts ≡ line
  pub low : (k : ℕ) → k < length starts → get_or starts k 0 ≤ at
  pub some : (k : ℕ) → k < length starts → 0 < get_or starts k 0
  pub apart : (k : ℕ) → k + 1 < length starts → get_or starts k 0 < get_or starts (k + 1) 0
  pub is_start : start_at starts line ≡ start
  pub ordered : start ≤ at

-- an element, or the one that came last
old_or_new : (xs : List ℕ) (next k : ℕ) → k < length (xs ++ next ∷ []) → ((k < length xs) × (get_or (xs ++ next ∷ []) k 0 ≡ get_or xs k 0)) ⊎ ((k ≡ length xs) × (get_or (xs ++ next ∷ []) k 0 ≡ next))
old_or_new xs next k lt = elim (cases_lt k (length xs)) [
  | inl h ↦ inl (h, get_or_append_left xs (next ∷ []) 0 k h)
  | inr h ↦ let e : k ≡ length xs = omega (arith, length_push xs next) in inr (e, get_or_push xs next 0 k (sym e))
]

apart_more : (xs : List ℕ) (line start at k : ℕ) → AreStarts xs line start at → k + 1 < length (xs ++ (at + 1) ∷ []) → get_or (xs ++ (at + 1) ∷ []) k 0 < get_or (xs ++ (at + 1) ∷ []) (k + 1) 0
apart_more xs line start at k is lt =
    let len = length_push xs (at + 1) in
    let here = get_or_append_left xs ((at + 1) ∷ []) 0 k (omega arith) in
    elim (old_or_new xs (at + 1) (k + 1) lt) [
      | inl h ↦ omega (arith, here, h.1, is.apart k h.0)
      | inr h ↦ omega (arith, here, h.1, is.low k (omega (arith, h.0)))
    ]

step : (xs : List ℕ) (line start at : ℕ) (b : Bool) → AreStarts xs line start at → AreStarts (cond b (xs ++ (at + 1) ∷ []) xs) (cond b (line + 1) line) (cond b (at + 1) start) (suc at)
step xs line start at true is = record {
  count = omega (arith, length_push xs (at + 1), is.count);
  low = λ k lt. elim (old_or_new xs (at + 1) k lt) [
    | inl h ↦ omega (arith, h.1, is.low k h.0)
    | inr h ↦ omega (arith, h.1)
  ];
  some = λ k lt. elim (old_or_new xs (at + 1) k lt) [
    | inl h ↦ omega (arith, h.1, is.some k h.0)
    | inr h ↦ omega (arith, h.1)
  ];
  apart = λ k lt. apart_more xs line start at k is lt;
  is_start = rw (add-one line) (get_or_push xs (at + 1) 0 line is.count);
  ordered = omega arith;
}
step xs line start at false is = record {
  count = is.count;
  low = λ k lt. omega (arith, is.low k lt);
  some = is.some;
  apart = is.apart;
  is_start = is.is_start;
  ordered = omega (arith, is.ordered);
}

pub starts_are : (text : List ℕ) (at : ℕ) → AreStarts (starts_of text at) (line_of text at) (line_start text at) at
starts_are text zero = record {
  count = refl;
  low = λ k lt. absurd (omega arith);
  some = λ k lt. absurd (omega arith);
  apart = λ k lt. absurd (omega arith);
  is_start = refl;
  ordered = omega arith;
}
starts_are text (suc at) = step (starts_of text at) (line_of text at) (line_start text at) at (ends_line text at) (starts_are text at)

few_step : (b : Bool) (line at : ℕ) → line ≤ at → cond b (line + 1) line ≤ suc at
few_step true line at le = omega arith
few_step false line at le = omega arith

-- no more lines than bytes
pub line_few : (text : List ℕ) (at : ℕ) → line_of text at ≤ at
line_few text zero = omega arith
line_few text (suc at) = few_step (ends_line text at) (line_of text at) at (line_few text at)

-- ---- and those that come later

-- the list goes on with numbers above one
pub record GoesOn (whole front : List ℕ) (at : ℕ) : Type 0 where
  pub back : List ℕ
  pub parts : whole ≡ front ++ back
  pub high : (k : ℕ) → k < length back → at < get_or back k 0

longer : (whole front : List ℕ) (at next : ℕ) (b : Bool) → at < next → GoesOn whole front at → GoesOn (cond b (whole ++ next ∷ []) whole) front at
longer whole front at next true lt g = record {
  back = g.back ++ next ∷ [];
  parts = ap (λ (z : List ℕ). z ++ next ∷ []) g.parts ∙ append_assoc front g.back (next ∷ []);
  high = λ k inside. elim (old_or_new g.back next k inside) [
    | inl h ↦ omega (arith, h.1, g.high k h.0)
    | inr h ↦ omega (arith, h.1)
  ];
}
longer whole front at next false lt g = g

same : (starts : List ℕ) (at : ℕ) → GoesOn starts starts at
same starts at = record { back = []; parts = sym (append-nil starts); high = λ k lt. absurd (omega arith) }

pub goes_on_to : (text : List ℕ) (at end : ℕ) → at ≤ end → GoesOn (starts_of text end) (starts_of text at) at
goes_on_to text at zero le =
    let e : 0 ≡ at = omega arith in
    subst (λ (k : ℕ). GoesOn (starts_of text 0) (starts_of text k) k) e (same (starts_of text 0) 0)
goes_on_to text at (suc end) le = elim (cases_lt at (suc end)) [
  | inl h ↦ longer (starts_of text end) (starts_of text at) at (end + 1) (ends_line text end) (omega arith) (goes_on_to text at end (omega arith))
  | inr h ↦ let e : suc end ≡ at = omega arith in subst (λ (k : ℕ). GoesOn (starts_of text (suc end)) (starts_of text k) k) e (same (starts_of text (suc end)) (suc end))
]

start_at-append : (front back : List ℕ) (line : ℕ) → line ≤ length front → start_at (front ++ back) line ≡ start_at front line
start_at-append front back zero le = refl
start_at-append front back (suc line) le = get_or_append_left front back 0 line (omega arith)

-- ---- the line of a place

parted : (text : List ℕ) (at : ℕ) (g : GoesOn (starts_of text (length text)) (starts_of text at) at) → IsParted (starts_of text at) g.back at
parted text at g = record { low = (starts_are text at).low; high = g.high }

pub partitioned : (text starts : List ℕ) (at : ℕ) → starts ≡ starts_of text (length text) → at ≤ length text → IsPartitionedBy (λ s. nat_le s at) starts
partitioned text starts at is le =
    let g = goes_on_to text at (length text) le in
    subst (λ (z : List ℕ). IsPartitionedBy (λ s. nat_le s at) z) (sym (is ∙ g.parts)) (IsPartitionedBy-parted (starts_of text at) g.back at (parted text at g))

-- what the list says of the line of a place
pub line_here : (text starts : List ℕ) (at : ℕ) → starts ≡ starts_of text (length text) → at ≤ length text → IsLineOf text starts at (line_of text at)
line_here text starts at is le =
    let g = goes_on_to text at (length text) le in
    let are = starts_are text at in
    let begins : start_at starts (line_of text at) ≡ line_start text at =
    ap (λ (z : List ℕ). start_at z (line_of text at)) (is ∙ g.parts) ∙ start_at-append (starts_of text at) g.back (line_of text at) (omega (arith, are.count)) ∙ are.is_start in
    record { is_line = refl; is_start = begins; ordered = omega (arith, begins, are.ordered) }

pub line_found : (text starts : List ℕ) (at r : ℕ) → starts ≡ starts_of text (length text) → at ≤ length text → r ≤ length starts
    → IsPartitionPoint (λ s. nat_le s at ≡ true) (λ s. nat_le s at ≡ false) starts r → IsLineOf text starts at r
line_found text starts at r is le bound point =
    let g = goes_on_to text at (length text) le in
    let whole = is ∙ g.parts in
    let there = subst (λ (z : List ℕ). IsPartitionPoint (λ s. nat_le s at ≡ true) (λ s. nat_le s at ≡ false) z r) whole point in
    let count : r ≡ length (starts_of text at) = IsPartitionPoint-parted (starts_of text at) g.back at r (parted text at g) (omega (arith, ap length whole)) there in
    subst (IsLineOf text starts at) (sym (count ∙ (starts_are text at).count)) (line_here text starts at is le)

-- ---- the places of a line

-- an element among the later ones is above the place, one among the first is not
element : (text starts : List ℕ) (at k : ℕ) → starts ≡ starts_of text (length text) → at ≤ length text → k < length starts
    → ((k < line_of text at) × (get_or starts k 0 ≤ at)) ⊎ ((line_of text at ≤ k) × (at < get_or starts k 0))
element text starts at k is le lt =
    let g = goes_on_to text at (length text) le in
    let are = starts_are text at in
    let whole = is ∙ g.parts in
    let there : get_or starts k 0 ≡ get_or (starts_of text at ++ g.back) k 0 = ap (λ (z : List ℕ). get_or z k 0) whole in
    let len = ap length whole ∙ length-append (starts_of text at) g.back in
    elim (cases_lt k (length (starts_of text at))) [
      | inl h ↦ inl (omega (arith, are.count), omega (arith, there, get_or_append_left (starts_of text at) g.back 0 k h, are.low k h))
      | inr h ↦ inr (
        omega (arith, are.count),
        omega (arith, there, get_or-append_right (starts_of text at) g.back (length (starts_of text at)) k 0 refl h, g.high (k - length (starts_of text at)) (omega arith)),
      )
    ]

last_by : (line len : ℕ) (starts : List ℕ) → ((line < length starts) × (last_at starts line len ≡ get_or starts line 0 - 1)) ⊎ ((length starts ≤ line) × (last_at starts line len ≡ len))
last_by line len starts = elim (cases_lt line (length starts)) [
  | inl h ↦ inl (h, rw (lt-ltb line (length starts) h) refl)
  | inr h ↦ inr (h, rw (le-ltb line (length starts) h) refl)
]

-- the lines of a text, the last of them counted from 0
pub lines_are : (text starts : List ℕ) → starts ≡ starts_of text (length text) → length starts ≡ line_of text (length text)
lines_are text starts is = ap length is ∙ (starts_are text (length text)).count

-- no line comes behind the last
pub few : (text starts : List ℕ) (at : ℕ) → starts ≡ starts_of text (length text) → at ≤ length text → line_of text at ≤ length starts
few text starts at is le =
    let g = goes_on_to text at (length text) le in
    omega (arith, ap length (is ∙ g.parts), length-append (starts_of text at) g.back, (starts_are text at).count)

-- a place is between the first place of its line and the last
pub record IsBetween (text starts : List ℕ) (line at : ℕ) : Type 0 where
  pub start : start_at starts line ≡ line_start text at
  pub after : start_at starts line ≤ at
  pub before : at ≤ last_at starts line (length text)

pub place_between : (text starts : List ℕ) (at line : ℕ) → starts ≡ starts_of text (length text) → at ≤ length text → line_of text at ≡ line → IsBetween text starts line at
place_between text starts at line is le e =
    let here = subst (IsLineOf text starts at) e (line_here text starts at is le) in
    record {
      start = here.is_start;
      after = here.ordered;
      before = elim (last_by line (length text) starts) [
        | inl h ↦ elim (element text starts at line is le h.0) [
          | inl k ↦ absurd (omega (arith, k.0))
          | inr k ↦ omega (arith, h.1, k.1)
        ]
        | inr h ↦ omega (arith, h.1)
      ];
    }

-- a line ends within the text, and not in front of where it begins
pub record IsWithin (text starts : List ℕ) (line : ℕ) : Type 0 where
  pub ordered : start_at starts line ≤ last_at starts line (length text)
  pub inside : last_at starts line (length text) ≤ length text

start_low : (text starts : List ℕ) (line : ℕ) → starts ≡ starts_of text (length text) → line ≤ length starts → start_at starts line ≤ length text
start_low text starts zero is le = omega arith
start_low text starts (suc line) is le =
    let are = starts_are text (length text) in
    omega (arith, ap (λ (z : List ℕ). get_or z line 0) is, are.low line (omega (arith, ap length is)))

start_apart : (text starts : List ℕ) (line : ℕ) → starts ≡ starts_of text (length text) → line < length starts → start_at starts line < get_or starts line 0
start_apart text starts zero is lt =
    omega (arith, ap (λ (z : List ℕ). get_or z 0 0) is, (starts_are text (length text)).some 0 (omega (arith, ap length is)))
start_apart text starts (suc line) is lt =
    let apart = (starts_are text (length text)).apart line (omega (arith, ap length is)) in
    let next : get_or starts (suc line) 0 ≡ get_or (starts_of text (length text)) (line + 1) 0 = rw (add-one line) (ap (λ (z : List ℕ). get_or z (suc line) 0) is) in
    omega (arith, apart, next, ap (λ (z : List ℕ). get_or z line 0) is)

pub line_within : (text starts : List ℕ) (line : ℕ) → starts ≡ starts_of text (length text) → line ≤ length starts → IsWithin text starts line
line_within text starts line is le =
    let start = start_low text starts line is le in
    elim (last_by line (length text) starts) [
      | inl h ↦
          let next = start_low text starts (suc line) is (omega (arith, h.0)) in
          record { ordered = omega (arith, h.1, start_apart text starts line is h.0); inside = omega (arith, h.1, next) }
      | inr h ↦ record { ordered = omega (arith, h.1, start); inside = omega (arith, h.1) }
    ]

-- a place between the first place of a line and the last is of that line
pub between_place : (text starts : List ℕ) (at line : ℕ) → starts ≡ starts_of text (length text) → line ≤ length starts → at ≤ length text
    → start_at starts line ≤ at → at ≤ last_at starts line (length text) → line_of text at ≡ line
between_place text starts at zero is le inside after before = elim (last_by zero (length text) starts) [
  | inl h ↦ elim (element text starts at zero is inside h.0) [
    | inl k ↦ absurd (omega (arith, h.1, k.1, start_apart text starts zero is h.0))
    | inr k ↦ omega (arith, k.0)
  ]
  | inr h ↦ omega (arith, lines_are text starts is, few text starts at is inside, h.0)
]
between_place text starts at (suc line) is le inside after before =
    let low : suc line ≤ line_of text at = elim (element text starts at line is inside (omega arith)) [
      | inl k ↦ omega (arith, k.0)
      | inr k ↦ absurd (omega (arith, k.1))
    ] in
    elim (last_by (suc line) (length text) starts) [
      | inl h ↦ elim (element text starts at (suc line) is inside h.0) [
        | inl k ↦ absurd (omega (arith, h.1, k.1, start_apart text starts (suc line) is h.0))
        | inr k ↦ omega (arith, k.0, low)
      ]
      | inr h ↦ omega (arith, few text starts at is inside, h.0, low)
    ]
