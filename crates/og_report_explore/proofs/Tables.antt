-- Rows of a run.
use Rattle.std.proofs.Common.{◌≡◌, ℕ, zero, suc, ◌+◌, ◌<◌, ℤ, arith, add-one, List, [], ◌∷◌, ◌++◌, length, take, get_or, Option, Some, refl, sym, ap, ◌∙◌, subst}
use Rattle.og_typed.specs.Syntax.{Program}
use Rattle.og_typed.specs.Machine.{Moment, run_on}
use Rattle.og_report_explore.specs.declared.finding.Row.{Row}
use Rattle.og_typed.specs.declared.statement.Item.{Item}
use Rattle.og_report_explore.specs.Findings.{IsRow, AreRows, assigned_below, StandsAt, AreStands}
use denote.Ref.{Bor}

pub rows_lead : (o : Program) (m : Moment) (ps : List ℕ) (rows : List Row) (k : Moment) → AreRows o m ps rows k → run_on ps (Some m) ≡ Some k
rows_lead o m [] [] k are = ap Some are
rows_lead o m [] (row ∷ rows) k are = absurd are
rows_lead o m (p ∷ ps) [] k are = absurd are
rows_lead o m (p ∷ ps) (row ∷ rows) k are = ap (run_on ps) are.1.step ∙ rows_lead o are.0 ps rows k are.2

pub rows_more : (o : Program) (m : Moment) (ps : List ℕ) (rows : List Row) (k n : Moment) (p : ℕ) (row : Row) → AreRows o m ps rows k → IsRow o k n p row → AreRows o m (ps ++ p ∷ []) (rows ++ row ∷ []) n
rows_more o m [] [] k n p row are is = (n, subst (λ z. IsRow o z n p row) (sym are) is, refl)
rows_more o m [] (r ∷ rows) k n p row are is = absurd are
rows_more o m (q ∷ ps) [] k n p row are is = absurd are
rows_more o m (q ∷ ps) (r ∷ rows) k n p row are is = (are.0, are.1, rows_more o are.0 ps rows k n p row are.2 is)

take_suc : (h : List ℕ) (i p : ℕ) → i < length h → p ≡ get_or h i 0 → take (suc i) h ≡ take i h ++ p ∷ []
take_suc [] i p lt is = absurd (omega (arith, lt))
take_suc (x ∷ h) zero p lt is = ap (λ y. y ∷ []) (sym is)
take_suc (x ∷ h) (suc i) p lt is = ap (λ l. x ∷ l) (take_suc h i p (omega (arith, lt)) is)

pub take_more : (h : List ℕ) (i p : ℕ) → i < length h → p ≡ get_or h i 0 → take (i + 1) h ≡ take i h ++ p ∷ []
take_more h i p lt is = ap (λ k. take k h) (add-one i) ∙ take_suc h i p lt is

-- ---- what a statement without an action assigns

pub nothing_below : (n : ℕ) (s : List ℤ) → assigned_below n [] s ≡ []
nothing_below zero s = refl
nothing_below (suc n) s = ap (λ l. l ++ []) (nothing_below n s)

-- ---- where processes stand

pub stands_more : (m : Moment) (p : ℕ) (stands : List (Option (Bor Item))) (stand : Option (Bor Item)) → AreStands m p stands → StandsAt m (p + length stands) stand → AreStands m p (stands ++ stand ∷ [])
stands_more m p [] stand are is = (subst (λ i. StandsAt m i stand) (let e : p + 0 ≡ p = omega arith in e) is, tt)
stands_more m p (s ∷ stands) stand are is = (
  are.0,
  stands_more m (p + 1) stands stand are.1 (subst (λ i. StandsAt m i stand) (let e : p + length (s ∷ stands) ≡ (p + 1) + length stands = omega arith in e) is),
)
