-- What a row says that was divided.
use Rattle.std.proofs.Common.{◌≡◌, ◌↔◌, ℕ, ℤ, pos, List, Option, Some, None, IfSome, slice_get, subst, sym, arith}
use Rattle.std.specs.Prelude.{◌≤ℤ◌}
use Rattle.std.proofs.lemmas.Int.{ints}
use Rattle.og_search_rows.specs.declared.inequality.Inequality.{Inequality}
use Rattle.og_search_rows.specs.declared.rows.Row.{Row}
use Rattle.og_search_rows.specs.Inequality.{left_side, Holds}
use Rattle.og_search_rows.specs.Rows.{HoldsAt, IsRowOf, left_of}

holds_left : (o : Option Row) (v : ℤ) (s : List ℤ) → v ≡ left_of o s → (v ≤ℤ pos 0) ↔ IfSome o (λ r. Holds r.form s)
holds_left None v s e = ((λ _. tt), (λ _. subst (λ w. w ≤ℤ pos 0) (sym e) (omega (arith, ints))))
holds_left (Some r) v s e = (subst (λ w. w ≤ℤ pos 0) e, subst (λ w. w ≤ℤ pos 0) (sym e))

-- the row says what the inequality does, that what the other does, and this one is a row
pub row_of_cut : (old new : List Row) (row part : ℕ) (form own : Inequality) → IsRowOf new part (Holds form) → ((s : List ℤ) → Holds form s ↔ Holds own s) → ((s : List ℤ) → left_side own s ≡ left_of (slice_get old row) s) → IsRowOf new part (HoldsAt old row)
row_of_cut old new row part form own is divided left = (
  is.0,
  (λ s.
      let here = holds_left (slice_get old row) (left_side own s) s (left s) in
      ((λ h. here.0 ((divided s).0 ((is.1 s).0 h))), (λ h. (is.1 s).1 ((divided s).1 (here.1 h))))),
)
