-- The facts of a condition are all true exactly where its hypotheses are true and its goal is false, and there are as many as are counted.
use Rattle.std.proofs.Common.{◌≡◌, ◌+◌, ℤ, List, [], ◌∷◌, ◌++◌, map, length, Bool, true, false, not, ◌&&◌, cond, Option, Some, None, refl, sym, ap, ap₂, ◌∙◌}
use Rattle.std.specs.Prelude.{option_map, nat_lt, Ok, Err}
use Rattle.std.proofs.lemmas.List.{length-append}
use Rattle.std.proofs.lemmas.Option.{none-some, same_Some, cond_some, option_and_then_some}
use Rattle.og_linear.specs.Linear.{FormValue}
use Rattle.og_linear.specs.Bounded.{MapValue, apply}
use Rattle.og_typed.specs.Syntax.{Formula, Formulas, True, False, Le, Eq, Ne, Not, And, Or, Imp, none, more, Simple}
use Rattle.og_typed.specs.Truth.{truth}
use Rattle.og_cond.specs.Condition.{assignments, Part, Yes, No, Hypothesis, Is, Starts, OneOf, Goal, Holds, Fits, Never, Condition}
use Rattle.og_cond.specs.Valid.{hypotheses_true, goal_true}
use Rattle.og_subst.specs.Subst.{forward, values, after, after_all, low, high, ranges}
use Rattle.og_subst.proofs.Moved.{after_action_said, fits_said}
use Rattle.og_facts.specs.declared.fault.FactsFault.TheVariants as faults
use Rattle.og_facts.specs.Counts.{split_count, count_yes, count_no, count_yes_all, count_no_all, counts_yes, counts_no, count_part, count_parts, count_hypothesis, count_hypotheses, count_goal, count}
use Rattle.og_facts.specs.Facts.{Fact, no, facts_of_part, facts_of_parts, facts_of_hypothesis, facts_of_hypotheses, goal_before, all_fit_in, checked_facts, exact_facts, most_facts, or_too_large, facts_of}
use Rattle.og_facts.specs.Truth.{all_true_at}
use Rattle.og_facts.proofs.Truths.{all_append, no_true, hypotheses_said, length-yes, length-no, split_length}

pub mapped : {A B : Type 0} (f : A → B) (o : Option A) (y : B) → option_map f o ≡ Some y → (x : A) × (o ≡ Some x) × (f x ≡ y)
mapped f None y e = absurd (none-some y e)
mapped f (Some x) y e = (x, refl, same_Some (f x) y e)

-- ---- truth

goal_said : (action : List Simple) (goal : Goal) (b : Formula) (s : List ℤ) → goal_before action goal ≡ Some b → truth b s ≡ goal_true s action goal
goal_said action (Holds a) b s e = after_action_said action a b s e
goal_said action Fits b s e = fits_said action b s e
goal_said action Never b s e = let p = mapped (λ (m : MapValue). False) (forward action) b e in ap (λ c. truth c s) (sym p.2)

exact_said : (c : Condition) (fs : List Fact) (s : List ℤ) → exact_facts c ≡ Some fs → all_true_at s fs ≡ (hypotheses_true s c.hypotheses && not (goal_true s (assignments c.action) c.goal))
exact_said c fs s e =
    option_and_then_some (λ a. checked_facts (facts_of_hypotheses c.hypotheses ++ no a)) (goal_before (assignments c.action) c.goal) fs e
    (λ a p q.
    ap (all_true_at s) (sym (cond_some (all_fit_in (facts_of_hypotheses c.hypotheses ++ no a)) _ fs q).1)
    ∙ all_append s (facts_of_hypotheses c.hypotheses) (no a)
    ∙ ap₂ ◌&&◌ (hypotheses_said c.hypotheses s) (no_true a s ∙ ap not (goal_said (assignments c.action) c.goal a s p)))

chosen_ok : (b : Bool) (o : Option (List Fact)) (fs : List Fact) → cond b (Err faults.TooManyFacts) (or_too_large o) ≡ Ok fs → (b ≡ false) × (o ≡ Some fs)
chosen_ok true o fs e = absurd (cc)
chosen_ok false None fs e = absurd (cc)
chosen_ok false (Some gs) fs e = (refl, cc)

pub facts_said : (c : Condition) (fs : List Fact) (s : List ℤ) → facts_of c ≡ Ok fs → all_true_at s fs ≡ (hypotheses_true s c.hypotheses && not (goal_true s (assignments c.action) c.goal))
facts_said c fs s e = exact_said c fs s (chosen_ok (nat_lt most_facts (count c)) (exact_facts c) fs e).1

-- ---- counts

mutual
  after_counts : (m : MapValue) (a b : Formula) → after m a ≡ Some b → (count_yes b ≡ count_yes a) × (count_no b ≡ count_no a)
  after_counts m True b e = (ap count_yes (sym (same_Some True b e)), ap count_no (sym (same_Some True b e)))
  after_counts m False b e = (ap count_yes (sym (same_Some False b e)), ap count_no (sym (same_Some False b e)))
  after_counts m (Le f) b e = let p = mapped Le (apply m f) b e in (ap count_yes (sym p.2), ap count_no (sym p.2))
  after_counts m (Eq f) b e = let p = mapped Eq (apply m f) b e in (ap count_yes (sym p.2), ap count_no (sym p.2))
  after_counts m (Ne f) b e = let p = mapped Ne (apply m f) b e in (ap count_yes (sym p.2), ap count_no (sym p.2))
  after_counts m (Not a) b e =
      let p = mapped Not (after m a) b e in
      let h = after_counts m a p.0 p.1 in
      (ap count_yes (sym p.2) ∙ h.1, ap count_no (sym p.2) ∙ h.0)
  after_counts m (And all) b e =
      let p = mapped And (after_all m all) b e in
      let h = after_counts_all m all p.0 p.1 in
      (ap count_yes (sym p.2) ∙ h.0, ap count_no (sym p.2) ∙ ap split_count h.3)
  after_counts m (Or all) b e =
      let p = mapped Or (after_all m all) b e in
      let h = after_counts_all m all p.0 p.1 in
      (ap count_yes (sym p.2) ∙ ap split_count h.2, ap count_no (sym p.2) ∙ h.1)
  after_counts m (Imp a c) b e =
      option_and_then_some (λ x. option_map (Imp x) (after m c)) (after m a) b e
      (λ x p q.
      let k = mapped (Imp x) (after m c) b q in
      (ap count_yes (sym k.2), ap count_no (sym k.2) ∙ ap₂ ◌+◌ (after_counts m a x p).0 (after_counts m c k.0 k.1).1))

  after_counts_all : (m : MapValue) (all others : Formulas) → after_all m all ≡ Some others → (count_yes_all others ≡ count_yes_all all) × (count_no_all others ≡ count_no_all all) × (counts_yes others ≡ counts_yes all) × (counts_no others ≡ counts_no all)
  after_counts_all m none others e = let h = sym (same_Some none others e) in (ap count_yes_all h, ap count_no_all h, ap counts_yes h, ap counts_no h)
  after_counts_all m (more a rest) others e =
      option_and_then_some (λ x. option_map (more x) (after_all m rest)) (after m a) others e
      (λ x p q.
      let k = mapped (more x) (after_all m rest) others q in
      let one = after_counts m a x p in
      let tail = after_counts_all m rest k.0 k.1 in
      (ap count_yes_all (sym k.2) ∙ ap₂ ◌+◌ one.0 tail.0, ap count_no_all (sym k.2) ∙ ap₂ ◌+◌ one.1 tail.1, ap counts_yes (sym k.2) ∙ ap₂ ◌∷◌ one.0 tail.2, ap counts_no (sym k.2) ∙ ap₂ ◌∷◌ one.1 tail.3))

ranges_count : (vs : List FormValue) (all : Formulas) → ranges vs ≡ Some all → split_count (counts_no all) ≡ 1
ranges_count [] all e = ap (λ a. split_count (counts_no a)) (sym (same_Some none all e))
ranges_count (v ∷ vs) all e =
    option_and_then_some _ (low v) all e
    (λ l el e2.
    option_and_then_some _ (high v) all e2
    (λ h eh e3.
    let k = mapped (λ others. more (Le l) (more (Le h) others)) (ranges vs) all e3 in
    ap (λ a. split_count (counts_no a)) (sym k.2)))

goal_counted : (action : List Simple) (goal : Goal) (b : Formula) → goal_before action goal ≡ Some b → count_no b ≡ count_goal goal
goal_counted action (Holds a) b e = option_and_then_some (λ m. after m a) (forward action) b e (λ m p q. (after_counts m a b q).1)
goal_counted action Fits b e =
    option_and_then_some (λ vs. option_map And (ranges vs)) (values action) b e
    (λ vs p q. let k = mapped And (ranges vs) b q in ap count_no (sym k.2) ∙ ranges_count vs k.0 k.1)
goal_counted action Never b e = let p = mapped (λ (m : MapValue). False) (forward action) b e in ap count_no (sym p.2)

part_counted : (p : Part) → length (facts_of_part p) ≡ count_part p
part_counted (Yes a) = length-yes a
part_counted (No a) = length-no a

parts_counted : (ps : List Part) → length (facts_of_parts ps) ≡ count_parts ps
parts_counted [] = refl
parts_counted (p ∷ ps) = length-append (facts_of_part p) (facts_of_parts ps) ∙ ap₂ ◌+◌ (part_counted p) (parts_counted ps)

each_counted : (lists : List (List Part)) → map length (map facts_of_parts lists) ≡ map count_parts lists
each_counted [] = refl
each_counted (ps ∷ lists) = ap₂ ◌∷◌ (parts_counted ps) (each_counted lists)

hypothesis_counted : (h : Hypothesis) → length (facts_of_hypothesis h) ≡ count_hypothesis h
hypothesis_counted (Is p) = part_counted p
hypothesis_counted (Starts x v) = refl
hypothesis_counted (OneOf parts) = split_length (map facts_of_parts parts) ∙ ap split_count (each_counted parts)

hypotheses_counted : (hs : List Hypothesis) → length (facts_of_hypotheses hs) ≡ count_hypotheses hs
hypotheses_counted [] = refl
hypotheses_counted (h ∷ hs) = length-append (facts_of_hypothesis h) (facts_of_hypotheses hs) ∙ ap₂ ◌+◌ (hypothesis_counted h) (hypotheses_counted hs)

exact_counted : (c : Condition) (fs : List Fact) → exact_facts c ≡ Some fs → length fs ≡ count c
exact_counted c fs e =
    option_and_then_some (λ a. checked_facts (facts_of_hypotheses c.hypotheses ++ no a)) (goal_before (assignments c.action) c.goal) fs e
    (λ a p q.
    ap length (sym (cond_some (all_fit_in (facts_of_hypotheses c.hypotheses ++ no a)) _ fs q).1)
    ∙ length-append (facts_of_hypotheses c.hypotheses) (no a)
    ∙ ap₂ ◌+◌ (hypotheses_counted c.hypotheses) (length-no a ∙ goal_counted (assignments c.action) c.goal a p))

pub facts_counted : (c : Condition) (fs : List Fact) → facts_of c ≡ Ok fs → length fs ≡ count c
facts_counted c fs e = exact_counted c fs (chosen_ok (nat_lt most_facts (count c)) (exact_facts c) fs e).1
