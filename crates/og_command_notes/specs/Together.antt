-- Places of different processes that no state has together: mutual exclusion, as the assertions say it.
use Rattle.std.specs.Prelude.{◌≡◌, ◌≢◌, ◌≤◌, ◌+◌, ℕ, List, [], ◌∷◌, All, Bool, if◌then◌else◌, nat_lt, Option, Some, None, slice_get}
use Rattle.og_typed.specs.declared.sites.Part.TheVariants as parts
use Rattle.og_cond.specs.Condition.{Yes}
use Rattle.og_command_notes.specs.Claims.{AreNeverTrue}
use Rattle.og_review_text.specs.Points.{Point}
use Rattle.og_review_text.specs.Steps.{is_beside}
use Rattle.og_command_notes.specs.declared.together.Block.{Block}
use Rattle.og_command_notes.specs.declared.together.Span.{Span}

-- two places, of these two processes, whose assertions are never true together
abbrev pub AreApart : ℕ → ℕ → Point → Point → Type 0
AreApart one other p q =
    (p.part ≡ parts.Process one) × (q.part ≡ parts.Process other) × (one ≢ other) × AreNeverTrue (Yes p.note.assertion ∷ Yes q.note.assertion ∷ [])

-- the same of places that may be absent
abbrev pub AreApartIn : ℕ → ℕ → Option Point → Option Point → Type 0
AreApartIn one other None q = ⊥
AreApartIn one other (Some p) None = ⊥
AreApartIn one other (Some p) (Some q) = AreApart one other p q

-- each place of one process from the first to the last of the block, with each of the other one; places count from 0 in text order
pub record IsBlock (points : List Point) (b : Block) : Type 0 where
  pub rows : b.rows.from ≤ b.rows.to
  pub columns : b.columns.from ≤ b.columns.to
  pub apart : (i j : ℕ) → b.rows.from ≤ i → i ≤ b.rows.to → b.columns.from ≤ j → j ≤ b.columns.to → AreApartIn b.one b.other (slice_get points i) (slice_get points j)

abbrev pub AreBlocks : List Point → List Block → Type 0
AreBlocks points = All (IsBlock points)

-- ---- two blocks as one

abbrev pub IsSameSpan : Span → Span → Type 0
IsSameSpan s t = (s.from ≡ t.from) × (s.to ≡ t.to)

-- the rows of the first, with its columns up to the last of the second; and its columns, with its rows up to the last of the second
abbrev pub across : Block → Block → Block
across a b = record { one = a.one; rows = a.rows; other = a.other; columns = record { from = a.columns.from; to = b.columns.to } }

abbrev pub down : Block → Block → Block
down a b = record { one = a.one; rows = record { from = a.rows.from; to = b.rows.to }; other = a.other; columns = a.columns }

-- they have the same rows, and the columns of the second begin right behind those of the first
pub record JoinsColumns (a b c : Block) : Type 0 where
  pub one : a.one ≡ b.one
  pub other : a.other ≡ b.other
  pub same : IsSameSpan a.rows b.rows
  pub next : a.columns.to + 1 ≡ b.columns.from
  pub joined : c ≡ across a b

-- they have the same columns, and the rows of the second begin right behind those of the first
pub record JoinsRows (a b c : Block) : Type 0 where
  pub one : a.one ≡ b.one
  pub other : a.other ≡ b.other
  pub same : IsSameSpan a.columns b.columns
  pub next : a.rows.to + 1 ≡ b.rows.from
  pub joined : c ≡ down a b

-- ---- how many are compared

-- two places of different processes are one pair, and others none
abbrev pub pair : Point → Point → ℕ
pair p q = if is_beside p.part q.part then 1 else 0

-- the pairs of a place with these ones
abbrev pub pairs_with : Point → List Point → ℕ
pairs_with p [] = 0
pairs_with p (q ∷ qs) = pair p q + pairs_with p qs

-- the pairs among these places
abbrev pub pair_count : List Point → ℕ
pair_count [] = 0
pair_count (p ∷ ps) = pairs_with p ps + pair_count ps

-- they are more than are compared
abbrev pub are_many : List Point → Bool
are_many ps = nat_lt 20000 (pair_count ps)

-- the same of places that may be absent
abbrev pub pair_in : Option Point → Option Point → ℕ
pair_in None q = 0
pair_in (Some p) None = 0
pair_in (Some p) (Some q) = pair p q

abbrev pub pairs_in : Option Point → List Point → ℕ
pairs_in None qs = 0
pairs_in (Some p) qs = pairs_with p qs
