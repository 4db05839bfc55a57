-- Numbers that workers draw from one word.
use Rattle.std.specs.Prelude.{◌≡◌, ◌==◌, ℕ, ◌+◌, ◌<◌, ◌≤◌, List, [], ◌∷◌, ◌++◌, length, slice_index, if◌then◌else◌, nat_le, nat_lt}
use mathlib.Core.Option.{some}
use lib.ListN.{get_elem?}
use Rattle.atomic_table.specs.Table.{State, Me, Step}
use Rattle.atomic_table.specs.Seated.{TableId}
use Rattle.og_pool.specs.declared.rule.Hand.{Hand}
use Rattle.og_pool.specs.declared.rule.Plan.{Plan}

-- the weights of the numbers, added up
abbrev pub weigh : (ℕ → ℕ) → List ℕ → ℕ
weigh h [] = 0
weigh h (x ∷ xs) = h x + weigh h xs

-- how often x stands in the list
abbrev pub times : ℕ → List ℕ → ℕ
times x xs = weigh (λ y. if y == x then 1 else 0) xs

-- how many numbers of n or more stand in the list
abbrev pub past : ℕ → List ℕ → ℕ
past n xs = weigh (λ y. if nat_le n y then 1 else 0) xs

-- 1 for a number below n, and else 0
abbrev pub once_below : ℕ → ℕ → ℕ
once_below x n = if nat_lt x n then 1 else 0

-- f of each view, added up
abbrev pub total : (Hand → ℕ) → List Hand → ℕ
total f [] = 0
total f (v ∷ vs) = f v + total f vs

abbrev pub hand : ℕ → List ℕ → Hand
hand workers drawn = record { workers = workers; drawn = drawn }

-- The rule, with n tasks and k workers, at the word w. The seats' lists together hold each number below w once and no other.
-- Each view counts the workers that it stands for, and the counts add up to k. A view holds at most that count of numbers of n or more. One that stands for no worker holds no number.
pub record EachOnce (p : Plan) (s : State (Unit {0}) Hand) : Type 0 where
  pub one_word : length s.words ≡ 1
  pub workers : total (λ v. v.workers) s.views ≡ p.workers
  pub once : (x : ℕ) → total (λ v. times x v.drawn) s.views ≡ once_below x (slice_index s.words 0)
  pub few : (seat : ℕ) (v : Hand) → get_elem? s.views seat ≡ some v → past p.count v.drawn ≤ v.workers
  pub spent : (seat : ℕ) (v : Hand) → get_elem? s.views seat ≡ some v → v.workers ≡ 0 → v.drawn ≡ []

-- the number found goes to the end of the seat's own list, and is greater than those in it
abbrev pub Draws : Step (Unit {0}) → Me (Unit {0}) Hand → ℕ → Me (Unit {0}) Hand → Type 0
Draws st m found m' = (m'.0 ≡ hand m.0.workers (m.0.drawn ++ found ∷ [])) × (m'.1 ≡ m.1) × ((x : ℕ) → 0 < times x m.0.drawn → x < found)

-- which draw word, with how many tasks for how many workers
pub record Source : Type 0 where
  pub table : TableId
  pub count : ℕ
  pub workers : ℕ

-- what a drawer stands for
pub record Part : Type 0 where
  pub source : Source
  pub workers : ℕ
  pub drawn : List ℕ

-- one worker, which has drawn nothing yet
abbrev pub IsOne : Source → Part → Type 0
IsOne source part = (part.source ≡ source) × (part.workers ≡ 1) × (part.drawn ≡ [])
