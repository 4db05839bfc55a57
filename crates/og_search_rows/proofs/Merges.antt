-- The steps of the sum of two lists of terms.
use Rattle.std.proofs.Common.{◌≡◌, ℕ, ◌+◌, ◌-◌, take, ◌<◌, ℤ, pos, ◌+ℤ◌, ◌*ℤ◌, List, drop, length, get_or, ap, ◌∙◌, arith}
use Rattle.std.specs.Prelude.{◌≤ℤ◌}
use Rattle.std.proofs.lemmas.Int.{ints}
use Rattle.std.proofs.lemmas.Grind.{common_steps}
use Rattle.og_linear.proofs.Ring.{mul-add}
use Rattle.og_search_rows.specs.declared.inequality.Term.{Term}
use Rattle.og_search_rows.specs.declared.bounds.Interval.{Interval}
use Rattle.og_search_rows.specs.Inequality.{sum_at, part_at}
use Rattle.og_search_rows.specs.Bounds.{Within}
use Rattle.og_search_rows.proofs.Sums.{sum_at-drop}

-- no term
abbrev pub no_term : Term
no_term = record { var = 0; coefficient = pos 0 }

-- the numbers there, and those still to be added, are the total
abbrev pub Sums : List Term → List Term → ℤ → ℤ → List Term → ℕ → ℕ → (List ℤ → ℤ) → Type 0
Sums us ws m n out i j total = (s : List ℤ) → (sum_at out s +ℤ m *ℤ sum_at (drop i us) s) +ℤ n *ℤ sum_at (drop j ws) s ≡ total s

front : (ts : List Term) (s : List ℤ) (i : ℕ) (m : ℤ) → i < length ts → m *ℤ sum_at (drop i ts) s ≡ m *ℤ part_at (get_or ts i no_term) s +ℤ m *ℤ sum_at (drop (i + 1) ts) s
front ts s i m h = ap (λ z. m *ℤ z) (sum_at-drop ts s i no_term h) ∙ mul-add m (part_at (get_or ts i no_term) s) (sum_at (drop (i + 1) ts) s)

pub take_first : (us ws out next : List Term) (i j : ℕ) (m n : ℤ) (total : List ℤ → ℤ) → i < length us → ((s : List ℤ) → sum_at next s ≡ sum_at out s +ℤ m *ℤ part_at (get_or us i no_term) s) → Sums us ws m n out i j total → Sums us ws m n next (i + 1) j total
take_first us ws out next i j m n total h put inv s = omega (arith, ints, front us s i m h, put s, inv s)

pub take_second : (us ws out next : List Term) (i j : ℕ) (m n : ℤ) (total : List ℤ → ℤ) → j < length ws → ((s : List ℤ) → sum_at next s ≡ sum_at out s +ℤ n *ℤ part_at (get_or ws j no_term) s) → Sums us ws m n out i j total → Sums us ws m n next i (j + 1) total
take_second us ws out next i j m n total h put inv s = omega (arith, ints, front ws s j n h, put s, inv s)

pub take_both : (us ws out next : List Term) (i j : ℕ) (m n : ℤ) (total : List ℤ → ℤ) → i < length us → j < length ws → ((s : List ℤ) → sum_at next s ≡ sum_at out s +ℤ (m *ℤ part_at (get_or us i no_term) s +ℤ n *ℤ part_at (get_or ws j no_term) s)) → Sums us ws m n out i j total → Sums us ws m n next (i + 1) (j + 1) total
take_both us ws out next i j m n total h g put inv s = omega (arith, ints, front us s i m h, front ws s j n g, put s, inv s)

-- the rest of both lists
pub take_rest : (us ws out next last : List Term) (i j : ℕ) (m n : ℤ) (total : List ℤ → ℤ) → ((s : List ℤ) → sum_at next s ≡ sum_at out s +ℤ m *ℤ sum_at (drop i us) s) → ((s : List ℤ) → sum_at last s ≡ sum_at next s +ℤ n *ℤ sum_at (drop j ws) s) → Sums us ws m n out i j total → (s : List ℤ) → sum_at last s ≡ total s
take_rest us ws out next last i j m n total first second inv s = omega (arith, ints, first s, second s, inv s)

pub rest_of : (ts : List Term) (i : ℕ) → take (length ts - i) (drop i ts) ≡ drop i ts
rest_of ts i = grind (arith, common_steps)

-- ---- the least value of a sum

-- the sum so far, with the rest, is not above the total
abbrev pub StaysBelow : List Term → List Term → List Interval → ℤ → ℕ → ℕ → (List ℤ → ℤ) → Type 0
StaysBelow us ws b sum i j total = (s : List ℤ) → Within b s → ((sum +ℤ sum_at (drop i us) s) +ℤ sum_at (drop j ws) s) ≤ℤ total s

pub least_first : (us ws : List Term) (b : List Interval) (sum part next : ℤ) (i j : ℕ) (total : List ℤ → ℤ) → i < length us → ((s : List ℤ) → Within b s → part ≤ℤ part_at (get_or us i no_term) s) → next ≡ sum +ℤ part → StaysBelow us ws b sum i j total → StaysBelow us ws b next (i + 1) j total
least_first us ws b sum part next i j total h below put inv s w = omega (arith, ints, sum_at-drop us s i no_term h, below s w, put, inv s w)

pub least_second : (us ws : List Term) (b : List Interval) (sum part next : ℤ) (i j : ℕ) (total : List ℤ → ℤ) → j < length ws → ((s : List ℤ) → Within b s → part ≤ℤ part_at (get_or ws j no_term) s) → next ≡ sum +ℤ part → StaysBelow us ws b sum i j total → StaysBelow us ws b next i (j + 1) total
least_second us ws b sum part next i j total h below put inv s w = omega (arith, ints, sum_at-drop ws s j no_term h, below s w, put, inv s w)

pub least_both : (us ws : List Term) (b : List Interval) (sum part next : ℤ) (i j : ℕ) (total : List ℤ → ℤ) → i < length us → j < length ws → ((s : List ℤ) → Within b s → part ≤ℤ (part_at (get_or us i no_term) s +ℤ part_at (get_or ws j no_term) s)) → next ≡ sum +ℤ part → StaysBelow us ws b sum i j total → StaysBelow us ws b next (i + 1) (j + 1) total
least_both us ws b sum part next i j total h g below put inv s w = omega (arith, ints, sum_at-drop us s i no_term h, sum_at-drop ws s j no_term g, below s w, put, inv s w)

pub least_rest : (us ws : List Term) (b : List Interval) (sum next last : ℤ) (i j : ℕ) (total : List ℤ → ℤ) → ((s : List ℤ) → Within b s → next ≤ℤ (sum +ℤ sum_at (drop i us) s)) → ((s : List ℤ) → Within b s → last ≤ℤ (next +ℤ sum_at (drop j ws) s)) → StaysBelow us ws b sum i j total → (s : List ℤ) → Within b s → last ≤ℤ total s
least_rest us ws b sum next last i j total first second inv s w = omega (arith, ints, first s w, second s w, inv s w)
