-- The order of the blocks: the same conditions, those that a run gets to first.
use Rattle.std.proofs.Common.{◌≡◌, ◌∙◌, ℕ, ◌+◌, ◌<◌, ◌≤◌, inl, inr, List, [], ◌∷◌, ◌++◌, Bool, true, false, true≢false, cond, refl, sym, subst, append_assoc, arith}
use Rattle.std.specs.Prelude.{filter, IsPermutation}
use Rattle.std.specs.List.{AllByRecursion}
use Rattle.std.proofs.lemmas.List.Sorted.{IsPermutation-refl, IsPermutation-cons, IsPermutation-middle, IsPermutation-sym, IsPermutation-trans}
use Rattle.og_cond.specs.Condition.{Condition}
use Rattle.og_report_prove.specs.Report.{is_proved}
use Rattle.og_report_prove.specs.declared.diagnosis.Diagnosis.{Diagnosis}
use Rattle.og_report_runs.specs.declared.witness.Run.{Run}
use Rattle.og_report_runs.specs.declared.witness.Run.TheVariants as run
use Rattle.og_report_findings.specs.Entries.{Entry, unproved_from}
use Rattle.og_report_findings.specs.Order.{is_reached, is_never, is_open, in_order, rank, StandsBefore, IsInOrder}
use Rattle.og_report_findings.proofs.Ordered.{Ordered, all_pairs, all_weaker, all_both, all_joined, all_passing, ordered_filtered, ordered_joined}

-- ---- the same conditions

-- one more behind those of the first lists
moved : (e : Entry) (es xs ys : List Entry) → IsPermutation es (xs ++ ys) → IsPermutation (e ∷ es) (xs ++ e ∷ ys)
moved e es xs ys h =
    IsPermutation-trans (e ∷ es) (e ∷ (xs ++ ys)) (xs ++ e ∷ ys) (IsPermutation-cons e es (xs ++ ys) h)
    (IsPermutation-sym (xs ++ e ∷ ys) (e ∷ (xs ++ ys)) (IsPermutation-middle xs e ys))

abbrev reached : List Entry → List Entry
reached = filter (λ e. is_reached e.run)

abbrev open_ones : List Entry → List Entry
open_ones = filter (λ e. is_open e.run)

abbrev never : List Entry → List Entry
never = filter (λ e. is_never e.run)

same : (es : List Entry) → IsPermutation es (in_order es)
same [] = IsPermutation-refl []
same (e ∷ es) = go e.run (same es)
  where
    go : (r : Run) → IsPermutation es (in_order es) → IsPermutation (e ∷ es) (cond (is_reached r) (e ∷ reached es) (reached es) ++ (cond (is_open r) (e ∷ open_ones es) (open_ones es) ++ cond (is_never r) (e ∷ never es) (never es)))
    go (run.Reached w) others = IsPermutation-cons e es (in_order es) others
    go run.Open others = moved e es (reached es) (open_ones es ++ never es) others
    go run.Never others =
        subst (IsPermutation (e ∷ es)) (append_assoc (reached es) (open_ones es) (e ∷ never es))
        (moved e es (reached es ++ open_ones es) (never es) (subst (IsPermutation es) (sym (append_assoc (reached es) (open_ones es) (never es))) others))

-- ---- their order

abbrev HasLower : Entry → Entry → Type 0
HasLower a b = a.number < b.number

numbered : (n : ℕ) (cs : List Condition) (ts : List Diagnosis) (rs : List Run) → AllByRecursion (λ e. n ≤ e.number) (unproved_from n cs ts rs) × Ordered HasLower (unproved_from n cs ts rs)
numbered n [] ts rs = (tt, tt)
numbered n (c ∷ cs) [] rs = (tt, tt)
numbered n (c ∷ cs) (t ∷ ts) [] = (tt, tt)
numbered n (c ∷ cs) (t ∷ ts) (r ∷ rs) = go (is_proved t) (numbered (n + 1) cs ts rs)
  where
    go : (b : Bool) → AllByRecursion (λ e. n + 1 ≤ e.number) (unproved_from (n + 1) cs ts rs) × Ordered HasLower (unproved_from (n + 1) cs ts rs)
        → AllByRecursion (λ x. n ≤ x.number) (cond b [] (record { number = n; condition = c; diagnosis = t; run = r } ∷ []) ++ unproved_from (n + 1) cs ts rs)
        × Ordered HasLower (cond b [] (record { number = n; condition = c; diagnosis = t; run = r } ∷ []) ++ unproved_from (n + 1) cs ts rs)
    go true others = (all_weaker (λ x. n + 1 ≤ x.number) (λ x. n ≤ x.number) (λ x h. omega (arith, h)) (unproved_from (n + 1) cs ts rs) others.0, others.1)
    go false others = (
      (omega arith, all_weaker (λ x. n + 1 ≤ x.number) (λ x. n ≤ x.number) (λ x h. omega (arith, h)) (unproved_from (n + 1) cs ts rs) others.0),
      (all_weaker (λ x. n + 1 ≤ x.number) (λ x. n < x.number) (λ x h. omega (arith, h)) (unproved_from (n + 1) cs ts rs) others.0, others.1),
    )

-- those of one rank
in_rank : (k : ℕ) (es : List Entry) → Ordered HasLower es → AllByRecursion (λ e. rank e.run ≡ k) es → Ordered StandsBefore es
in_rank k [] h r = tt
in_rank k (e ∷ es) h r =
    (all_both (HasLower e) (λ x. rank x.run ≡ k) (StandsBefore e) (λ x p q. inr (r.0 ∙ sym q, p)) es h.0 r.1, in_rank k es h.1 r.1)

-- those of a lower rank and those of a higher one
by_rank : (j k : ℕ) → j < k → (es fs : List Entry) → AllByRecursion (λ e. rank e.run ≡ j) es → AllByRecursion (λ e. rank e.run ≡ k) fs → AllByRecursion (λ e. AllByRecursion (StandsBefore e) fs) es
by_rank j k less es fs p q =
    all_weaker (λ e. rank e.run ≡ j) (λ e. AllByRecursion (StandsBefore e) fs)
    (λ e r. all_weaker (λ f. rank f.run ≡ k) (StandsBefore e) (λ f s. inl (omega (arith, less, r, s))) fs q) es p

reached_first : (r : Run) → is_reached r ≡ true → rank r ≡ 0
reached_first (run.Reached w) h = refl
reached_first run.Never h = absurd (true≢false (sym h))
reached_first run.Open h = absurd (true≢false (sym h))

open_next : (r : Run) → is_open r ≡ true → rank r ≡ 1
open_next (run.Reached w) h = absurd (true≢false (sym h))
open_next run.Never h = absurd (true≢false (sym h))
open_next run.Open h = refl

never_last : (r : Run) → is_never r ≡ true → rank r ≡ 2
never_last (run.Reached w) h = absurd (true≢false (sym h))
never_last run.Never h = refl
never_last run.Open h = absurd (true≢false (sym h))

pub ordered : (es : List Entry) → Ordered HasLower es → Ordered StandsBefore (in_order es)
ordered es h =
    let xs = all_weaker (λ (e : Entry). is_reached e.run ≡ true) (λ e. rank e.run ≡ 0) (λ e p. reached_first e.run p) (reached es) (all_passing (λ (e : Entry). is_reached e.run) es) in
    let ys = all_weaker (λ (e : Entry). is_open e.run ≡ true) (λ e. rank e.run ≡ 1) (λ e p. open_next e.run p) (open_ones es) (all_passing (λ (e : Entry). is_open e.run) es) in
    let zs = all_weaker (λ (e : Entry). is_never e.run ≡ true) (λ e. rank e.run ≡ 2) (λ e p. never_last e.run p) (never es) (all_passing (λ (e : Entry). is_never e.run) es) in
    let first = in_rank 0 (reached es) (ordered_filtered HasLower (λ (e : Entry). is_reached e.run) es h) xs in
    let next = in_rank 1 (open_ones es) (ordered_filtered HasLower (λ (e : Entry). is_open e.run) es h) ys in
    let last = in_rank 2 (never es) (ordered_filtered HasLower (λ (e : Entry). is_never e.run) es h) zs in
    let others = ordered_joined StandsBefore (open_ones es) (never es) next last (by_rank 1 2 (omega arith) (open_ones es) (never es) ys zs) in
    ordered_joined StandsBefore (reached es) (open_ones es ++ never es) first others
    (all_both (λ e. AllByRecursion (StandsBefore e) (open_ones es)) (λ e. AllByRecursion (StandsBefore e) (never es)) (λ e. AllByRecursion (StandsBefore e) (open_ones es ++ never es))
    (λ e p q. all_joined (StandsBefore e) (open_ones es) (never es) p q) (reached es)
    (by_rank 0 1 (omega arith) (reached es) (open_ones es) xs ys) (by_rank 0 2 (omega arith) (reached es) (never es) xs zs))

pub ordered_unproved : (cs : List Condition) (ts : List Diagnosis) (rs : List Run) → Ordered StandsBefore (in_order (unproved_from 1 cs ts rs))
ordered_unproved cs ts rs = ordered (unproved_from 1 cs ts rs) (numbered 1 cs ts rs).1

pub is_in_order : (cs : List Condition) (ts : List Diagnosis) (rs : List Run) → IsInOrder (unproved_from 1 cs ts rs) (in_order (unproved_from 1 cs ts rs))
is_in_order cs ts rs = record {
  same = same (unproved_from 1 cs ts rs);
  before = all_pairs StandsBefore (in_order (unproved_from 1 cs ts rs)) (ordered_unproved cs ts rs);
}
