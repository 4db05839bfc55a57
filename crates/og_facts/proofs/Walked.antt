-- The facts that are made form by form are those of the definition, and they are refused where these do not fit.
use Rattle.std.proofs.Common.{◌≡◌, List, [], ◌∷◌, ◌++◌, map, Bool, true, false, ◌&&◌, cond, Option, Some, None, refl, sym, ap, ap₂, ◌∙◌}
use Rattle.std.specs.Prelude.{option_and_then, option_map}
use Rattle.og_linear.specs.Linear.{FormValue}
use Rattle.og_linear.specs.Bounded.{MapValue}
use Rattle.og_typed.specs.Syntax.{Formula, Formulas, True, False, Le, Eq, Ne, Not, And, Or, Imp, none, more, Simple}
use Rattle.og_subst.specs.Subst.{forward, values, after, after_all, low, high, ranges}
use Rattle.og_cond.specs.Condition.{assignments, Part, Yes, No, Hypothesis, Is, Starts, OneOf, Goal, Holds, Fits, Never, Condition}
use Rattle.og_facts.specs.Facts.{Fact, parts_of_list, fact_fits, parts_fit, split, yes, no, yes_all, no_all, yes_each, no_each, facts_of_part, facts_of_parts, facts_of_hypothesis, facts_of_hypotheses, goal_before, all_fit_in, checked_facts, exact_facts}
use Rattle.og_facts.specs.Walk.{said, under, joined, part_and, walk, walk_all, walk_each, walk_part, walk_parts, walk_lists, walk_hypothesis, walk_hypotheses, beyond, walk_values, walk_goal}

-- ---- options

then_map : {A B C : Type 0} (h : B → Option C) (k : A → B) (o : Option A) → option_and_then h (option_map k o) ≡ option_and_then (λ x. h (k x)) o
then_map h k None = refl
then_map h k (Some x) = refl

map_then : {A B C : Type 0} (k : B → C) (h : A → Option B) (o : Option A) → option_map k (option_and_then h o) ≡ option_and_then (λ x. option_map k (h x)) o
map_then k h None = refl
map_then k h (Some x) = refl

then_same : {A B : Type 0} (h k : A → Option B) → ((x : A) → h x ≡ k x) → (o : Option A) → option_and_then h o ≡ option_and_then k o
then_same h k e None = refl
then_same h k e (Some x) = e x

pub joined_none : (o : Option (List Fact)) → joined o None ≡ None
joined_none None = refl
joined_none (Some fs) = refl

part_and_none : (o : Option (List Fact)) → part_and o None ≡ None
part_and_none None = refl
part_and_none (Some p) = refl

-- ---- what fits

and_assoc : (a b c : Bool) → ((a && b) && c) ≡ (a && (b && c))
and_assoc true b c = refl
and_assoc false b c = refl

and_true : (b : Bool) → (b && true) ≡ b
and_true true = refl
and_true false = refl

fit_append : (xs ys : List Fact) → all_fit_in (xs ++ ys) ≡ (all_fit_in xs && all_fit_in ys)
fit_append [] ys = refl
fit_append (x ∷ xs) ys = ap (λ b. fact_fits x && b) (fit_append xs ys) ∙ sym (and_assoc (fact_fits x) (all_fit_in xs) (all_fit_in ys))

pub checked_append : (xs ys : List Fact) → checked_facts (xs ++ ys) ≡ joined (checked_facts xs) (checked_facts ys)
checked_append xs ys = ap (λ b. cond b (Some (xs ++ ys)) None) (fit_append xs ys) ∙ go (all_fit_in xs) (all_fit_in ys)
  where
    go : (b c : Bool) → cond (b && c) (Some (xs ++ ys)) None ≡ joined (cond b (Some xs) None) (cond c (Some ys) None)
    go true true = refl
    go true false = refl
    go false c = refl

-- each part, if all of it fits
abbrev pub checked_each : List (List Fact) → Option (List (List Fact))
checked_each [] = Some []
checked_each (p ∷ ps) = part_and (checked_facts p) (checked_each ps)

each_checked : (ps : List (List Fact)) → checked_each ps ≡ cond (parts_fit (parts_of_list ps)) (Some ps) None
each_checked [] = refl
each_checked (p ∷ ps) = ap (part_and (checked_facts p)) (each_checked ps) ∙ go (all_fit_in p) (parts_fit (parts_of_list ps))
  where
    go : (b c : Bool) → part_and (cond b (Some p) None) (cond c (Some ps) None) ≡ cond (b && c) (Some (p ∷ ps)) None
    go true true = refl
    go true false = refl
    go false c = refl

pub split_checked : (ps : List (List Fact)) → option_map split (checked_each ps) ≡ checked_facts (split ps)
split_checked [] = refl
split_checked (p ∷ []) = go (all_fit_in p)
  where
    go : (b : Bool) → option_map split (part_and (cond b (Some p) None) (Some [])) ≡ cond b (Some p) None
    go true = refl
    go false = refl
split_checked (p ∷ q ∷ ps) =
    ap (option_map split) (each_checked (p ∷ q ∷ ps))
    ∙ go (parts_fit (parts_of_list (p ∷ q ∷ ps)))
  where
    go : (b : Bool) → option_map split (cond b (Some (p ∷ q ∷ ps)) None) ≡ cond (b && true) (Some (split (p ∷ q ∷ ps))) None
    go true = refl
    go false = refl

-- the list made of two things, one after the other
both : {A B C : Type 0} (c : A → B → C) (f : A → List Fact) (g : B → List Fact) (h : C → List Fact) → ((x : A) (y : B) → h (c x y) ≡ f x ++ g y) → (o : Option A) (p : Option B)
    → joined (option_and_then (λ x. checked_facts (f x)) o) (option_and_then (λ y. checked_facts (g y)) p) ≡ option_and_then (λ z. checked_facts (h z)) (option_and_then (λ x. option_map (c x) p) o)
both c f g h e None p = refl
both c f g h e (Some x) None = joined_none (checked_facts (f x))
both c f g h e (Some x) (Some y) = sym (checked_append (f x) (g y)) ∙ ap checked_facts (sym (e x y))

each_both : {A B C : Type 0} (c : A → B → C) (f : A → List Fact) (g : B → List (List Fact)) (h : C → List (List Fact)) → ((x : A) (y : B) → h (c x y) ≡ f x ∷ g y) → (o : Option A) (p : Option B)
    → part_and (option_and_then (λ x. checked_facts (f x)) o) (option_and_then (λ y. checked_each (g y)) p) ≡ option_and_then (λ z. checked_each (h z)) (option_and_then (λ x. option_map (c x) p) o)
each_both c f g h e None p = refl
each_both c f g h e (Some x) None = part_and_none (checked_facts (f x))
each_both c f g h e (Some x) (Some y) = ap checked_each (sym (e x y))

either_checked : (o p : Option Formula) → option_map split (part_and (option_and_then (λ x. checked_facts (no x)) o) (part_and (option_and_then (λ y. checked_facts (yes y)) p) (Some []))) ≡ option_and_then (λ z. checked_facts (yes z)) (option_and_then (λ x. option_map (Imp x) p) o)
either_checked None p = refl
either_checked (Some x) None = ap (option_map split) (part_and_none (checked_facts (no x)))
either_checked (Some x) (Some y) = split_checked (no x ∷ yes y ∷ [])

-- ---- assertions

module _ (forms : Option MapValue) where
  -- the assertion with each form under the map, if there is one
  abbrev mutual
    pub moved : Formula → Option Formula
    moved True = Some True
    moved False = Some False
    moved (Le f) = option_map Le (under forms f)
    moved (Eq f) = option_map Eq (under forms f)
    moved (Ne f) = option_map Ne (under forms f)
    moved (Not a) = option_map Not (moved a)
    moved (And all) = option_map And (moved_all all)
    moved (Or all) = option_map Or (moved_all all)
    moved (Imp a b) = option_and_then (λ x. option_map (Imp x) (moved b)) (moved a)

    pub moved_all : Formulas → Option Formulas
    moved_all none = Some none
    moved_all (more a rest) = option_and_then (λ x. option_map (more x) (moved_all rest)) (moved a)

  abbrev said_all : Bool → Formulas → List Fact
  said_all true all = yes_all all
  said_all false all = no_all all

  abbrev said_each : Bool → Formulas → List (List Fact)
  said_each true all = yes_each all
  said_each false all = no_each all

  each_split : (b : Bool) (o : Option Formulas) (w : Option (List (List Fact))) → w ≡ option_and_then (λ all. checked_each (said_each b all)) o → option_map split w ≡ option_and_then (λ all. checked_facts (split (said_each b all))) o
  each_split b o w e =
      ap (option_map split) e
      ∙ map_then split (λ all. checked_each (said_each b all)) o
      ∙ then_same (λ all. option_map split (checked_each (said_each b all))) (λ all. checked_facts (split (said_each b all))) (λ all. split_checked (said_each b all)) o

  mutual
    pub walked : (b : Bool) (a : Formula) → walk forms b a ≡ option_and_then (λ x. checked_facts (said b x)) (moved a)
    walked true True = refl
    walked false True = refl
    walked true False = refl
    walked false False = refl
    walked true (Le f) = sym (then_map (λ x. checked_facts (yes x)) Le (under forms f))
    walked false (Le f) = sym (then_map (λ x. checked_facts (no x)) Le (under forms f))
    walked true (Eq f) = sym (then_map (λ x. checked_facts (yes x)) Eq (under forms f))
    walked false (Eq f) = sym (then_map (λ x. checked_facts (no x)) Eq (under forms f))
    walked true (Ne f) = sym (then_map (λ x. checked_facts (yes x)) Ne (under forms f))
    walked false (Ne f) = sym (then_map (λ x. checked_facts (no x)) Ne (under forms f))
    walked true (Not a) = walked false a ∙ sym (then_map (λ x. checked_facts (yes x)) Not (moved a))
    walked false (Not a) = walked true a ∙ sym (then_map (λ x. checked_facts (no x)) Not (moved a))
    walked true (And all) = walked_all true all ∙ sym (then_map (λ x. checked_facts (yes x)) And (moved_all all))
    walked false (And all) = each_split false (moved_all all) _ (walked_each false all) ∙ sym (then_map (λ x. checked_facts (no x)) And (moved_all all))
    walked true (Or all) = each_split true (moved_all all) _ (walked_each true all) ∙ sym (then_map (λ x. checked_facts (yes x)) Or (moved_all all))
    walked false (Or all) = walked_all false all ∙ sym (then_map (λ x. checked_facts (no x)) Or (moved_all all))
    walked true (Imp a b) =
        ap₂ (λ p q. option_map split (part_and p (part_and q (Some [])))) (walked false a) (walked true b)
        ∙ either_checked (moved a) (moved b)
    walked false (Imp a b) = ap₂ joined (walked true a) (walked false b) ∙ both Imp yes no no (λ x y. refl) (moved a) (moved b)

    walked_all : (b : Bool) (all : Formulas) → walk_all forms b all ≡ option_and_then (λ xs. checked_facts (said_all b xs)) (moved_all all)
    walked_all true none = refl
    walked_all false none = refl
    walked_all true (more a rest) = ap₂ joined (walked true a) (walked_all true rest) ∙ both more yes yes_all yes_all (λ x y. refl) (moved a) (moved_all rest)
    walked_all false (more a rest) = ap₂ joined (walked false a) (walked_all false rest) ∙ both more no no_all no_all (λ x y. refl) (moved a) (moved_all rest)

    walked_each : (b : Bool) (all : Formulas) → walk_each forms b all ≡ option_and_then (λ xs. checked_each (said_each b xs)) (moved_all all)
    walked_each true none = refl
    walked_each false none = refl
    walked_each true (more a rest) = ap₂ part_and (walked true a) (walked_each true rest) ∙ each_both more yes yes_each yes_each (λ x y. refl) (moved a) (moved_all rest)
    walked_each false (more a rest) = ap₂ part_and (walked false a) (walked_each false rest) ∙ each_both more no no_each no_each (λ x y. refl) (moved a) (moved_all rest)

-- without a map each form stays
mutual
  moved_none : (a : Formula) → moved None a ≡ Some a
  moved_none True = refl
  moved_none False = refl
  moved_none (Le f) = refl
  moved_none (Eq f) = refl
  moved_none (Ne f) = refl
  moved_none (Not a) = ap (option_map Not) (moved_none a)
  moved_none (And all) = ap (option_map And) (moved_all_none all)
  moved_none (Or all) = ap (option_map Or) (moved_all_none all)
  moved_none (Imp a b) = ap₂ (λ p q. option_and_then (λ x. option_map (Imp x) q) p) (moved_none a) (moved_none b)

  moved_all_none : (all : Formulas) → moved_all None all ≡ Some all
  moved_all_none none = refl
  moved_all_none (more a rest) = ap₂ (λ p q. option_and_then (λ x. option_map (more x) q) p) (moved_none a) (moved_all_none rest)

mutual
  moved_after : (m : MapValue) (a : Formula) → moved (Some m) a ≡ after m a
  moved_after m True = refl
  moved_after m False = refl
  moved_after m (Le f) = refl
  moved_after m (Eq f) = refl
  moved_after m (Ne f) = refl
  moved_after m (Not a) = ap (option_map Not) (moved_after m a)
  moved_after m (And all) = ap (option_map And) (moved_all_after m all)
  moved_after m (Or all) = ap (option_map Or) (moved_all_after m all)
  moved_after m (Imp a b) = ap₂ (λ p q. option_and_then (λ x. option_map (Imp x) q) p) (moved_after m a) (moved_after m b)

  moved_all_after : (m : MapValue) (all : Formulas) → moved_all (Some m) all ≡ after_all m all
  moved_all_after m none = refl
  moved_all_after m (more a rest) = ap₂ (λ p q. option_and_then (λ x. option_map (more x) q) p) (moved_after m a) (moved_all_after m rest)

-- ---- hypotheses

as_it_is : (b : Bool) (a : Formula) → walk None b a ≡ checked_facts (said b a)
as_it_is b a = walked None b a ∙ ap (option_and_then (λ x. checked_facts (said b x))) (moved_none a)

part_walked : (p : Part) → walk_part p ≡ checked_facts (facts_of_part p)
part_walked (Yes a) = as_it_is true a
part_walked (No a) = as_it_is false a

parts_walked : (ps : List Part) → walk_parts ps ≡ checked_facts (facts_of_parts ps)
parts_walked [] = refl
parts_walked (p ∷ ps) = ap₂ joined (part_walked p) (parts_walked ps) ∙ sym (checked_append (facts_of_part p) (facts_of_parts ps))

lists_walked : (lists : List (List Part)) → walk_lists lists ≡ checked_each (map facts_of_parts lists)
lists_walked [] = refl
lists_walked (ps ∷ lists) = ap₂ part_and (parts_walked ps) (lists_walked lists)

hypothesis_walked : (h : Hypothesis) → walk_hypothesis h ≡ checked_facts (facts_of_hypothesis h)
hypothesis_walked (Is p) = part_walked p
hypothesis_walked (Starts x v) = refl
hypothesis_walked (OneOf lists) = ap (option_map split) (lists_walked lists) ∙ split_checked (map facts_of_parts lists)

hypotheses_walked : (hs : List Hypothesis) → walk_hypotheses hs ≡ checked_facts (facts_of_hypotheses hs)
hypotheses_walked [] = refl
hypotheses_walked (h ∷ hs) = ap₂ joined (hypothesis_walked h) (hypotheses_walked hs) ∙ sym (checked_append (facts_of_hypothesis h) (facts_of_hypotheses hs))

-- ---- the goal

values_walked : (vs : List FormValue) → walk_values vs ≡ option_and_then (λ all. checked_each (no_each all)) (ranges vs)
values_walked [] = refl
values_walked (v ∷ vs) =
    ap (λ w. part_and (beyond (low v)) (part_and (beyond (high v)) w)) (values_walked vs)
    ∙ go (low v) (high v) (ranges vs)
  where
    go : (l h : Option FormValue) (r : Option Formulas) → part_and (beyond l) (part_and (beyond h) (option_and_then (λ all. checked_each (no_each all)) r)) ≡ option_and_then (λ all. checked_each (no_each all)) (option_and_then (λ x. option_and_then (λ y. option_map (λ others. more (Le x) (more (Le y) others)) r) h) l)
    go None h r = refl
    go (Some x) None r = part_and_none (checked_facts (no (Le x)))
    go (Some x) (Some y) None = ap (part_and (checked_facts (no (Le x)))) (part_and_none (checked_facts (no (Le y)))) ∙ part_and_none (checked_facts (no (Le x)))
    go (Some x) (Some y) (Some all) = refl

goal_walked : (action : List Simple) (m : MapValue) (vs : List FormValue) (goal : Goal) → forward action ≡ Some m → values action ≡ Some vs → walk_goal m vs goal ≡ option_and_then (λ a. checked_facts (no a)) (goal_before action goal)
goal_walked action m vs (Holds a) e f =
    walked (Some m) false a
    ∙ ap (option_and_then (λ x. checked_facts (no x))) (moved_after m a ∙ sym (ap (option_and_then (λ n. after n a)) e))
goal_walked action m vs Fits e f =
    each_split None false (ranges vs) _ (values_walked vs)
    ∙ sym (then_map (λ x. checked_facts (no x)) And (ranges vs))
    ∙ ap (λ o. option_and_then (λ x. checked_facts (no x)) (option_and_then (λ us. option_map And (ranges us)) o)) (sym f)
goal_walked action m vs Never e f = ap (λ o. option_and_then (λ x. checked_facts (no x)) (option_map (λ (n : MapValue). False) o)) (sym e)

-- ---- a condition

pub facts_walked : (c : Condition) (m : MapValue) (vs : List FormValue) → forward (assignments c.action) ≡ Some m → values (assignments c.action) ≡ Some vs → joined (walk_hypotheses c.hypotheses) (walk_goal m vs c.goal) ≡ exact_facts c
facts_walked c m vs e f =
    ap₂ joined (hypotheses_walked c.hypotheses) (goal_walked (assignments c.action) m vs c.goal e f)
    ∙ go (goal_before (assignments c.action) c.goal)
  where
    go : (o : Option Formula) → joined (checked_facts (facts_of_hypotheses c.hypotheses)) (option_and_then (λ a. checked_facts (no a)) o) ≡ option_and_then (λ a. checked_facts (facts_of_hypotheses c.hypotheses ++ no a)) o
    go None = joined_none (checked_facts (facts_of_hypotheses c.hypotheses))
    go (Some a) = sym (checked_append (facts_of_hypotheses c.hypotheses) (no a))

-- without a map of the action there are no facts
unprepared : (action : List Simple) (goal : Goal) → forward action ≡ None → values action ≡ None → goal_before action goal ≡ None
unprepared action (Holds a) e f = ap (option_and_then (λ m. after m a)) e
unprepared action Fits e f = ap (option_and_then (λ vs. option_map And (ranges vs))) f
unprepared action Never e f = ap (option_map (λ (m : MapValue). False)) e

pub facts_refused : (c : Condition) → forward (assignments c.action) ≡ None → values (assignments c.action) ≡ None → exact_facts c ≡ None
facts_refused c e f = ap (option_and_then (λ a. checked_facts (facts_of_hypotheses c.hypotheses ++ no a))) (unprepared (assignments c.action) c.goal e f)
