-- The report of a moment, and along a history.
use Rattle.std.proofs.Common.{◌≡◌, ℕ, zero, suc, ◌+◌, ◌<◌, ◌≤◌, ℤ, List, [], ◌∷◌, ◌++◌, length, take, get_or, Bool, true, false, not, ◌&&◌, ◌||◌, ◌==◌, nat_lt, if◌then◌else◌, Option, Some, None, IfSome, is_some, option_map, refl, sym, ap, ◌∙◌, subst, ⊎_elim, inl, inr, arith, add-one}
use Rattle.std.specs.Prelude.{IfNone, ◌⊎◌}
use Rattle.std.proofs.lemmas.Bool.{and_parts, and_from, both_ways, cases_lt, eqb-true, eq-eqb, lt-ltb, ltb-true, or_right}
use Rattle.std.proofs.lemmas.Option.{same_Some, none-some}
use Rattle.og_typed.specs.Syntax.{Program}
use Rattle.og_typed.specs.Truth.{truth}
use Rattle.og_typed.specs.Machine.{Moment, next, run_on, start_of, active, current, is_finished, is_main, is_process, phase}
use Rattle.og_typed.specs.Turns.{is_turn}
use Rattle.og_typed.proofs.Turns.{IsShaped}
use Rattle.og_step.specs.Progress.{Progress}
use Rattle.og_violation.specs.declared.violation.Wrong.{Wrong}
use Rattle.og_violation.specs.declared.violation.Wrong.TheVariants.{Assertion, Overflow, Post, Stuck}
use Rattle.og_violation.specs.Violations.{IsWrongAt, IsWrong}
use Rattle.og_violation.specs.Along.{IsOfAssertion, IsTrueAfter, IsLeast, IsTrueAlong}
use Rattle.og_violation.specs.Replays.{IsAfterRun, is_mains_turn, IsTrueOf, IsFirstFalse, of_main, IsLeastAt, IsFindingAt, IsFirstWrong}
use Rattle.og_violation.proofs.Runs.{run_none, run_append}
use Rattle.og_violation.proofs.Activity.{by_turn, active_left, active_ended, current_ended, moved_turn, other_turn}

module _ (o : Program) (m : Moment) (shaped : IsShaped o m) where
  abbrev pub n : ℕ
  n = length o.processes

  -- where it is the main process's turn
  pub main_finding : is_finished m ≡ false → is_mains_turn o m ≡ true → IsFindingAt o m (of_main o m)
  main_finding left main = go (truth (current o m n) m.state) refl
    where
      is_it : (q : ℕ) → active o m q ≡ (q == n)
      is_it q = active_left o m shaped left q ∙ ap (λ b. by_turn o m shaped b q) main

      none : truth (current o m n) m.state ≡ true → (wrong : Wrong) → IsOfAssertion wrong → IsWrongAt o m wrong → ⊥
      none holds (Assertion q) of h =
          let same = eqb-true q n (sym (is_it q) ∙ h.0) in
          both_ways (truth (current o m q) m.state) h.1 (ap (λ i. truth (current o m i) m.state) same ∙ holds)
      none holds (Overflow q) of h = of
      none holds Post of h = both_ways (is_finished m) left h.0
      none holds Stuck of h = of

      go : (b : Bool) → truth (current o m n) m.state ≡ b → IsFindingAt o m (if b then None else Some (Assertion n))
      go true e = none e
      go false e = (
        (is_it n ∙ eq-eqb n n refl, e),
        λ q lt h. absurd (omega (arith, lt, eqb-true q n (sym (is_it q) ∙ h.0))),
      )

  -- where it is the others' turn
  pub others_finding : is_finished m ≡ false → is_mains_turn o m ≡ false → (found : Option ℕ) → IfSome found (IsFirstFalse o m) → IfNone found ((q : ℕ) → q < n → IsTrueOf o m q) → IsFindingAt o m (option_map Assertion found)
  others_finding left main found some none = go found some none
    where
      is_one : (q : ℕ) → active o m q ≡ nat_lt q n
      is_one q = active_left o m shaped left q ∙ ap (λ b. by_turn o m shaped b q) main

      nothing : ((q : ℕ) → q < n → IsTrueOf o m q) → (wrong : Wrong) → IsOfAssertion wrong → IsWrongAt o m wrong → ⊥
      nothing all (Assertion q) of h = both_ways (truth (current o m q) m.state) h.1 (all q (ltb-true q n (sym (is_one q) ∙ h.0)))
      nothing all (Overflow q) of h = of
      nothing all Post of h = both_ways (is_finished m) left h.0
      nothing all Stuck of h = of

      go : (found : Option ℕ) → IfSome found (IsFirstFalse o m) → IfNone found ((q : ℕ) → q < n → IsTrueOf o m q) → IsFindingAt o m (option_map Assertion found)
      go None s all = nothing all
      go (Some p) s all = (
        (is_one p ∙ lt-ltb p n s.0, s.1),
        λ q lt h. both_ways (truth (current o m q) m.state) h.1 (s.2 q lt),
      )

  -- where all have ended: the processes are active without an epilogue alone
  process_ended : is_finished m ≡ true → is_some o.epilogue ≡ false → (p : ℕ) → p < n → active o m p ≡ true
  process_ended ended none p lt =
      active_ended o m shaped ended p
      ∙ or_right (is_main o p) (is_process o p && not (is_some o.epilogue)) (and_from _ _ (lt-ltb p n lt) (ap not none))

  process_idle : is_finished m ≡ true → is_some o.epilogue ≡ true → (q : ℕ) → q < n → active o m q ≡ true → ⊥
  process_idle ended some q lt h = go (is_main o q) refl (sym (active_ended o m shaped ended q) ∙ h)
    where
      go : (b : Bool) → is_main o q ≡ b → (b || (is_process o q && not (is_some o.epilogue))) ≡ true → ⊥
      go true e g = absurd (omega (arith, lt, eqb-true q n (and_parts (is_some o.prologue || is_some o.epilogue) (q == n) e).1))
      go false e g = both_ways (not (is_some o.epilogue)) (ap not some) (and_parts (is_process o q) (not (is_some o.epilogue)) g).1

  main_or_process : is_finished m ≡ true → (q : ℕ) → active o m q ≡ true → (q ≡ n) ⊎ (q < n)
  main_or_process ended q h = go (is_main o q) refl (sym (active_ended o m shaped ended q) ∙ h)
    where
      go : (b : Bool) → is_main o q ≡ b → (b || (is_process o q && not (is_some o.epilogue))) ≡ true → (q ≡ n) ⊎ (q < n)
      go true e g = inl (eqb-true q n (and_parts (is_some o.prologue || is_some o.epilogue) (q == n) e).1)
      go false e g = inr (ltb-true q n (and_parts (is_process o q) (not (is_some o.epilogue)) g).0)

  pub process_finding : is_finished m ≡ true → is_some o.epilogue ≡ false → (p : ℕ) → IsFirstFalse o m p → IsFindingAt o m (Some (Assertion p))
  process_finding ended none p s = (
    (process_ended ended none p s.0, s.1),
    λ q lt h. both_ways (truth (current o m q) m.state) h.1 (s.2 q lt),
  )

  pub post_finding : is_finished m ≡ true → (is_some o.epilogue ≡ false → (q : ℕ) → q < n → IsTrueOf o m q) → IsWrongAt o m Post → IsFindingAt o m (Some Post)
  post_finding ended all wrong = (wrong, λ q lt h. go (is_some o.epilogue) refl q lt h)
    where
      go : (b : Bool) → is_some o.epilogue ≡ b → (q : ℕ) → q < n → IsWrongAt o m (Assertion q) → ⊥
      go true e q lt h = process_idle ended e q lt h.0
      go false e q lt h = both_ways (truth (current o m q) m.state) h.1 (all e q lt)

  pub no_finding : is_finished m ≡ true → (is_some o.epilogue ≡ false → (q : ℕ) → q < n → IsTrueOf o m q) → (IsWrongAt o m Post → ⊥) → IsFindingAt o m None
  no_finding ended all right = each
    where
      go : (b : Bool) → is_some o.epilogue ≡ b → (q : ℕ) → q < n → IsWrongAt o m (Assertion q) → ⊥
      go true e q lt h = process_idle ended e q lt h.0
      go false e q lt h = both_ways (truth (current o m q) m.state) h.1 (all e q lt)

      each : (wrong : Wrong) → IsOfAssertion wrong → IsWrongAt o m wrong → ⊥
      each (Assertion q) of h =
          ⊎_elim
          (λ same. right (ended, ap (λ a. truth a m.state) (sym (ap (current o m) same ∙ current_ended o m shaped ended)) ∙ h.1))
          (λ lt. go (is_some o.epilogue) refl q lt h) (main_or_process ended q h.0)
      each (Overflow q) of h = of
      each Post of h = right h
      each Stuck of h = of

  -- where a process has a step
  pub moved_main : (p : ℕ) (k : Moment) → next m p ≡ Some k → p ≡ n → is_mains_turn o m ≡ true
  moved_main p k e same = ap (λ i. is_turn (phase m) m i) (sym same) ∙ moved_turn o m shaped p k e

  pub moved_other : (p : ℕ) (k : Moment) → next m p ≡ Some k → (p ≡ n → ⊥) → is_mains_turn o m ≡ false
  moved_other p k e ne = other_turn o m shaped p ne ∙ ap not (moved_turn o m shaped p k e)

-- ---- along a history

-- no history goes on where its next process has no step
stops : (h : List ℕ) (k j p : ℕ) (a : Option Moment) (m : Moment) → k < length h → p ≡ get_or h k 0 → run_on (take k h) a ≡ Some m → next m p ≡ None → k < j → run_on (take j h) a ≡ None
stops [] k j p a m lt is e f more = absurd (omega (arith, lt))
stops (x ∷ h) k zero p a m lt is e f more = absurd (omega (arith, more))
stops (x ∷ h) k (suc j) p None m lt is e f more = absurd (none-some m (sym (run_none (take k (x ∷ h))) ∙ e))
stops (x ∷ h) zero (suc j) p (Some n) m lt is e f more =
    ap (run_on (take j h)) (ap (next n) (sym is) ∙ ap (λ z. next z p) (same_Some n m e) ∙ f) ∙ run_none (take j h)
stops (x ∷ h) (suc k) (suc j) p (Some n) m lt is e f more =
    stops h k j p (next n x) m (omega (arith, lt)) is e f (omega (arith, more))

take_more : (h : List ℕ) (k p : ℕ) → k < length h → p ≡ get_or h k 0 → take (suc k) h ≡ take k h ++ p ∷ []
take_more [] k p lt is = absurd (omega (arith, lt))
take_more (x ∷ h) zero p lt is = ap (λ y. y ∷ []) (sym is)
take_more (x ∷ h) (suc k) p lt is = ap (λ l. x ∷ l) (take_more h k p (omega (arith, lt)) is)

take_all : (h : List ℕ) (k : ℕ) → length h ≤ k → take k h ≡ h
take_all [] zero le = refl
take_all [] (suc k) le = refl
take_all (x ∷ h) zero le = absurd (omega (arith, le))
take_all (x ∷ h) (suc k) le = ap (λ l. x ∷ l) (take_all h k (omega (arith, le)))

module _ (o : Program) (values : List ℤ) (history : List ℕ) where
  -- the violation after a run is one at its moment
  pub at_last : (at : Progress) (wrong : Wrong) → IsAfterRun o values history at → IsWrong o values history wrong → IsWrongAt o at.moment wrong
  at_last at wrong after is = subst (λ m. IsWrongAt o m wrong) (same_Some is.last at.moment (sym is.leads ∙ after.2)) is.there

  pub wrong_after : (at : Progress) (wrong : Wrong) → IsAfterRun o values history at → IsWrongAt o at.moment wrong → IsWrong o values history wrong
  wrong_after at wrong after is = record { begins = after.1; last = at.moment; leads = after.2; there = is }

  pub true_after : (at : Progress) → IsAfterRun o values history at → IsFindingAt o at.moment None → IsTrueAfter o values history
  true_after at after finding wrong of is = finding wrong of (at_last at wrong after is)

  pub least_after : (at : Progress) (wrong : Wrong) → IsAfterRun o values history at → IsLeastAt o at.moment wrong → IsLeast o values history wrong
  least_after at (Assertion p) after least = λ q lt is. least q lt (at_last at (Assertion q) after is)
  least_after at (Overflow p) after least = least
  least_after at Post after least = λ q lt is. least q lt (at_last at (Assertion q) after is)
  least_after at Stuck after least = least

module _ (o : Program) (values : List ℤ) (history : List ℕ) where
  -- one step more
  pub run_more : (k p : ℕ) (at new : Progress) → k < length history → p ≡ get_or history k 0 → IsAfterRun o values (take k history) at → next at.moment p ≡ Some new.moment → new.outline ≡ at.outline → IsAfterRun o values (take (k + 1) history) new
  run_more k p at new lt is after step same = (
    same ∙ after.0,
    after.1,
    ap (λ l. run_on l (Some (start_of o values))) (ap (λ i. take i history) (add-one k) ∙ take_more history k p lt is)
        ∙ run_append (take k history) (p ∷ []) (Some (start_of o values))
        ∙ ap (run_on (p ∷ [])) after.2
        ∙ ap (run_on []) step,
  )

  abbrev TrueBefore : ℕ → Type 0
  TrueBefore k = (j : ℕ) → j < k → IsTrueAfter o values (take j history)

  pub before_more : (k : ℕ) (at : Progress) → TrueBefore k → IsAfterRun o values (take k history) at → IsFindingAt o at.moment None → TrueBefore (k + 1)
  before_more k at before after finding j lt =
      ⊎_elim (λ less. before j less)
      (λ more. subst (λ i. IsTrueAfter o values (take i history)) (let e : k ≡ j = omega (arith, lt, more) in e) (true_after o values (take k history) at after finding))
      (cases_lt j k)

  pub first_at : (k : ℕ) (at : Progress) (wrong : Wrong) → k ≤ length history → TrueBefore k → IsAfterRun o values (take k history) at → IsFindingAt o at.moment (Some wrong) → IsFirstWrong o values history (k, wrong)
  first_at k at wrong le before after finding = (
    le,
    wrong_after o values (take k history) at wrong after finding.0,
    least_after o values (take k history) at wrong after finding.1,
    before,
  )

  abbrev After : ℕ → Type 0
  After k = (j : ℕ) → k < j → IsTrueAfter o values (take j history)

  along : (k : ℕ) (at : Progress) → TrueBefore k → IsAfterRun o values (take k history) at → After k → IsFindingAt o at.moment None → IsTrueAlong o values history
  along k at before after beyond finding j =
      ⊎_elim (λ less. before j less)
      (λ more. ⊎_elim
      (λ (less : k < j). beyond j less)
      (λ (most : j ≤ k). subst (λ i. IsTrueAfter o values (take i history)) (let e : k ≡ j = omega (arith, most, more) in e) (true_after o values (take k history) at after finding))
      (cases_lt k j))
      (cases_lt j k)

  -- the report where the run ends after k steps
  abbrev pub IsEnd : Option (ℕ × Wrong) → Type 0
  IsEnd found = IfSome found (IsFirstWrong o values history) × IfNone found (IsTrueAlong o values history)

  end_at : (k : ℕ) (at : Progress) (found : Option Wrong) → k ≤ length history → TrueBefore k → IsAfterRun o values (take k history) at → After k → IsFindingAt o at.moment found → IsEnd (option_map (λ wrong. (k, wrong)) found)
  end_at k at None le before after beyond finding = (tt, along k at before after beyond finding)
  end_at k at (Some wrong) le before after beyond finding = (first_at k at wrong le before after finding, tt)

  pub end_stopped : (k p : ℕ) (at : Progress) (found : Option Wrong) → k < length history → p ≡ get_or history k 0 → TrueBefore k → IsAfterRun o values (take k history) at → next at.moment p ≡ None → IsFindingAt o at.moment found → IsEnd (option_map (λ wrong. (k, wrong)) found)
  end_stopped k p at found lt is before after none finding =
      end_at k at found (omega (arith, lt)) before after
      (λ j less wrong of w. none-some w.last (sym (stops history k j p (Some (start_of o values)) at.moment lt is after.2 none less) ∙ w.leads))
      finding

  pub end_whole : (k : ℕ) (at : Progress) (found : Option Wrong) → k ≡ length history → TrueBefore k → IsAfterRun o values (take k history) at → IsFindingAt o at.moment found → IsEnd (option_map (λ wrong. (length history, wrong)) found)
  end_whole k at None e before after finding =
      (tt, λ j. ⊎_elim (λ less. before j less) (λ more. subst (IsTrueAfter o values) (whole k j e more) (true_after o values (take k history) at after finding)) (cases_lt j k))
    where
      whole : (k j : ℕ) → k ≡ length history → k ≤ j → take k history ≡ take j history
      whole k j e le = take_all history k (omega (arith, e)) ∙ sym (take_all history j (omega (arith, e, le)))
  end_whole k at (Some wrong) e before after finding =
      (subst (λ i. IsFirstWrong o values history (i, wrong)) e (first_at k at wrong (omega (arith, e)) before after finding), tt)
