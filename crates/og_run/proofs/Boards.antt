-- What a board keeps.
use Rattle.std.proofs.Common.{◌≡◌, ◌≢◌, ℕ, ◌+◌, ◌<◌, ◌≤◌, Bool, true, false, List, [], ◌∷◌, ◌++◌, length, set, replicate, Option, Some, None, is_some, refl, sym, ap, ◌∙◌, subst, ⊎_elim, arith, length-set, length-append, eqb}
use Rattle.std.specs.Prelude.{slice_get, IfSome, IsTrue, ◌↔◌}
use Rattle.std.proofs.lemmas.Bool.{both_ways}
use Rattle.std.proofs.lemmas.Bool.Decides.{eqb_tells, nat_tests}
use Rattle.std.proofs.Math.ListN.{length-replicate}
use Rattle.og_typed.specs.Machine.{next, start_of, IsStart}
use Rattle.og_typed.specs.Stuck.{IsStuck}
use Rattle.og_step.specs.Progress.{Progress}
use Rattle.og_run.specs.Runs.{Given}
use Rattle.og_run.specs.Histories.{IsRun, process_count, moves_of}
use Rattle.og_run.specs.Turns.{HasLeft, HasRoom, IsTurn}
use Rattle.og_run.specs.declared.turn.RunTurn.TheVariants.{Overflow, Moved}
use Rattle.og_run.specs.Standing.{Standing, AreCounts, IsBoard, stand_after}
use Rattle.og_run.proofs.Lists.{slice_get_set_same, slice_get_set_other, there_is, all_same}
use Rattle.og_run.proofs.Histories.{moves_append, moves_least, leads_more, shaped_after}
use Rattle.og_run.proofs.Turning.{left_inside}

pub no_counts : (n : ℕ) → AreCounts n [] (replicate n 0)
no_counts n = (length-replicate n 0, λ p k e. sym (all_same n 0 p k e))

pub some_same : (a b : ℕ) → Some a ≡ Some b → a ≡ b
some_same a b e = cc

-- the count of p is one more, and so is what it counts
pub counts_more : (n : ℕ) (h counts : List ℕ) (p k : ℕ) → AreCounts n h counts → slice_get counts p ≡ Some k → AreCounts n (h ++ p ∷ []) (set counts p (k + 1))
counts_more n h counts p k are there = (
  length-set counts p (k + 1) ∙ are.0,
  λ q x e. ⊎_elim
      (λ (t : (eqb q p ≡ true) × (q ≡ p)).
      let same : k + 1 ≡ x = some_same (k + 1) x (sym (slice_get_set_same counts p k (k + 1) there) ∙ (ap (λ i. slice_get (set counts p (k + 1)) i) (sym t.1) ∙ e)) in
      let m = moves_append q h (p ∷ []) in
      let old = are.1 p k there in
      let at = t.1 in
      let counted : moves_of q h ≡ moves_of p h = ap (λ i. moves_of i h) t.1 in
      let one : moves_of q (p ∷ []) ≡ 1 = grind (arith, nat_tests) in
      omega (arith, same, m, old, counted, one))
      (λ (t : (eqb q p ≡ false) × (q ≢ p)).
      let old = are.1 q x (sym (slice_get_set_other counts p q (k + 1) t.1) ∙ e) in
      let m = moves_append q h (p ∷ []) in
      let apart = t.1 in
      let none : moves_of q (p ∷ []) ≡ 0 = grind (arith, nat_tests) in
      omega (arith, m, old, none))
      (eqb_tells q p),
)

pub count_there : (n : ℕ) (h counts : List ℕ) (p : ℕ) → AreCounts n h counts → p < n → (k : ℕ) × (slice_get counts p ≡ Some k) × (k ≤ length h)
count_there n h counts p are less =
    let k = there_is counts p (omega (arith, are.0, less)) in
    (k.0, k.1, omega (arith, are.1 p k.0 k.1, moves_least p h))

pub board_begun : (g : Given) (a : Progress) (counts : List ℕ) → g.limit ≤ 1000000 → IsStart g.outline g.values → a ≡ record { outline = g.outline; moment = start_of g.outline g.values } → length counts ≤ 257 → AreCounts (process_count g.outline) [] counts
    → IsBoard (record { given = g; history = []; halted = None }) a counts
board_begun g a counts few begins is small are = record {
  begins = begins;
  short = omega arith;
  few = few;
  outline = ap (λ (z : Progress). z.outline) is;
  leads = ap (λ (z : Progress). Some z.moment) (sym is);
  few_processes = small;
  counted = are;
  noted = tt;
}

pub board_moved : (s : Standing) (a b : Progress) (counts : List ℕ) (p k : ℕ) → IsBoard s a counts → s.halted ≡ None → length s.history < s.given.limit → next a.moment p ≡ Some b.moment → b.outline ≡ a.outline → slice_get counts p ≡ Some k
    → IsBoard (stand_after Moved s p) b (set counts p (k + 1))
board_moved s a b counts p k is none room step same there = record {
  begins = is.begins;
  short = omega (arith, length-append s.history (p ∷ []), room);
  few = is.few;
  outline = same ∙ is.outline;
  leads = leads_more s.given s.history p a.moment b.moment is.leads step;
  few_processes = omega (arith, is.few_processes, length-set counts p (k + 1));
  counted = counts_more (process_count s.given.outline) s.history counts p k is.counted there;
  noted = subst (λ o. IfSome o (λ q. IsTurn s.given (s.history ++ p ∷ []) q Overflow)) (sym none) tt;
}

pub board_noted : (s : Standing) (a b : Progress) (counts : List ℕ) (p : ℕ) → IsBoard s a counts → b ≡ a → IsTurn s.given s.history p Overflow → IsBoard (record { given = s.given; history = s.history; halted = Some p }) b counts
board_noted s a b counts p is same over = record {
  begins = is.begins;
  short = is.short;
  few = is.few;
  outline = ap (λ (z : Progress). z.outline) same ∙ is.outline;
  leads = is.leads ∙ ap (λ (z : Progress). Some z.moment) (sym same);
  few_processes = is.few_processes;
  counted = is.counted;
  noted = over;
}

pub board_same : (s : Standing) (a b : Progress) (counts : List ℕ) → IsBoard s a counts → b ≡ a → IsBoard s b counts
board_same s a b counts is same = subst (λ z. IsBoard s z counts) (sym same) is

pub none_is : (o : Option ℕ) → is_some o ≡ false → o ≡ None
none_is None e = refl
none_is (Some p) e = absurd (both_ways true e refl)

pub not_stuck : (b : Bool) (P : Type 0) → (IsTrue b ↔ P) → b ≡ false → P → ⊥
not_stuck b P both e h = both_ways b e (both.1 h)

pub board_there : (s : Standing) (a : Progress) (counts : List ℕ) (p : ℕ) → IsBoard s a counts → HasLeft a.moment p → (k : ℕ) × (slice_get counts p ≡ Some k) × (k ≤ 1000000) × (p < length counts)
board_there s a counts p is left =
    let less = left_inside s.given.outline a.moment p (shaped_after s.given s.history a.moment is.leads) left in
    let k = count_there (process_count s.given.outline) s.history counts p is.counted less in
    (k.0, k.1, omega (arith, k.2, is.short, is.few), omega (arith, is.counted.0, less))

pub board_room : (s : Standing) (a : Progress) (counts : List ℕ) (p : ℕ) → IsBoard s a counts → HasLeft a.moment p → (IsStuck a.outline a.moment → ⊥) → length s.history < s.given.limit → HasRoom s.given s.history a.moment p
board_room s a counts p is left free room = ((left, λ stuck. free (subst (λ o. IsStuck o a.moment) (sym is.outline) stuck)), room)

pub run_of : (s : Standing) (a : Progress) (counts : List ℕ) → IsBoard s a counts → IsRun s.given s.history
run_of s a counts is = record { begins = is.begins; short = is.short; last = a.moment; leads = is.leads }
