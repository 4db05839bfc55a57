-- The table of facts says what the assertion says.
use Rattle.std.proofs.Common.{◌≡◌, ℕ, ◌+◌, ℤ, pos, negsuc, neg_ℤ, ◌+ℤ◌, ◌*ℤ◌, List, [], ◌∷◌, ◌++◌, map, Bool, true, false, not, ◌&&◌, ◌||◌, refl, sym, ap, ap₂, ◌∙◌, arith, length}
use Rattle.std.specs.Prelude.{int_le}
use Rattle.std.specs.Ordering.{int_eq}
use Rattle.std.proofs.lemmas.Int.{ints}
use Rattle.std.proofs.lemmas.List.{length-append}
use Rattle.std.proofs.lemmas.Bool.Decides.{Decides-int_eq}
use Rattle.std.proofs.lemmas.Bool.{false_from_ne_true, both_ways}
use Rattle.og_linear.specs.Linear.{FormValue, form_value, val, value_at}
use Rattle.og_typed.specs.Syntax.{Formula, Formulas, True, False, Le, Eq, Ne, Not, And, Or, Imp, none, more}
use Rattle.og_typed.specs.Truth.{truth, all_true, some_true}
use Rattle.og_cond.specs.Condition.{Part, Yes, No, Hypothesis, Is, Starts, OneOf}
use Rattle.og_cond.specs.Valid.{part_true, all_parts, some_parts, hypothesis_true, hypotheses_true}
use Rattle.og_facts.specs.Facts.{Fact, Atom, facts_of_list, parts_of_list, plus_one, negated, split, equal, apart, yes, no, yes_all, no_all, yes_each, no_each, facts_of_part, facts_of_parts, facts_of_hypothesis, facts_of_hypotheses}
use Rattle.og_facts.specs.Truth.{fact_true, some_part_true, facts_true, all_true_at}
use Rattle.og_facts.specs.Counts.{split_count, count_yes, count_no, count_yes_all, count_no_all, counts_yes, counts_no}
use Rattle.og_linear.proofs.Values.{val-scaled}

-- ---- truth values

and_true : (b : Bool) → (b && true) ≡ b
and_true true = refl
and_true false = refl

or_false : (b : Bool) → (b || false) ≡ b
or_false true = refl
or_false false = refl

and_assoc : (a b c : Bool) → ((a && b) && c) ≡ (a && (b && c))
and_assoc true b c = refl
and_assoc false b c = refl

not-and : (a b : Bool) → not (a && b) ≡ (not a || not b)
not-and true b = refl
not-and false b = refl

not-or : (a b : Bool) → not (a || b) ≡ (not a && not b)
not-or true b = refl
not-or false b = refl

not-not : (a : Bool) → not (not a) ≡ a
not-not true = refl
not-not false = refl

-- ---- one form

not_at_most : (v w : ℤ) → w ≡ negsuc 0 *ℤ v +ℤ pos 1 → int_le w (pos 0) ≡ not (int_le v (pos 0))
not_at_most v w e = go (int_le v (pos 0)) refl
  where
    go : (b : Bool) → int_le v (pos 0) ≡ b → int_le w (pos 0) ≡ not b
    go true h = sym (omega (arith, ints))
    go false h = sym (omega (arith, ints))

both_at_most : (v w : ℤ) → w ≡ negsuc 0 *ℤ v → (int_le v (pos 0) && int_le w (pos 0)) ≡ int_eq v (pos 0)
both_at_most v w e = go (int_le v (pos 0)) (int_le w (pos 0)) refl refl
  where
    go : (b c : Bool) → int_le v (pos 0) ≡ b → int_le w (pos 0) ≡ c → (b && c) ≡ int_eq v (pos 0)
    go true true h k = sym ((Decides-int_eq v (pos 0)).1 (omega (arith, ints)))
    go true false h k = sym (false_from_ne_true (int_eq v (pos 0)) (λ t. let z : v ≡ pos 0 = (Decides-int_eq v (pos 0)).0 t in absurd (omega (arith, ints))))
    go false c h k = sym (false_from_ne_true (int_eq v (pos 0)) (λ t. let z : v ≡ pos 0 = (Decides-int_eq v (pos 0)).0 t in absurd (omega (arith, ints))))

val-plus_one : (f : FormValue) (s : List ℤ) → val (plus_one f) s ≡ val f s +ℤ pos 1
val-plus_one f s = omega (arith, ints)

pub more_than : (f : FormValue) (s : List ℤ) → int_le (val (plus_one (negated f)) s) (pos 0) ≡ not (int_le (val f s) (pos 0))
more_than f s = not_at_most (val f s) _ (val-plus_one (negated f) s ∙ ap (λ v. v +ℤ pos 1) (val-scaled (negsuc 0) f s))

less_than : (f : FormValue) (s : List ℤ) → int_le (val (plus_one f) s) (pos 0) ≡ not (int_le (val (negated f) s) (pos 0))
less_than f s =
    let back : val f s ≡ negsuc 0 *ℤ val (negated f) s = omega (arith, ints, val-scaled (negsuc 0) f s) in
    not_at_most (val (negated f) s) _ (val-plus_one f s ∙ ap (λ v. v +ℤ pos 1) back)

equal_true : (f : FormValue) (s : List ℤ) → all_true_at s (equal f) ≡ int_eq (val f s) (pos 0)
equal_true f s =
    ap (λ b. int_le (val f s) (pos 0) && b) (and_true _) ∙ both_at_most (val f s) (val (negated f) s) (val-scaled (negsuc 0) f s)

-- ---- lists and splits

pub all_append : (s : List ℤ) (xs ys : List Fact) → all_true_at s (xs ++ ys) ≡ (all_true_at s xs && all_true_at s ys)
all_append s [] ys = refl
all_append s (x ∷ xs) ys = ap (λ b. fact_true s x && b) (all_append s xs ys) ∙ sym (and_assoc (fact_true s x) (all_true_at s xs) (all_true_at s ys))

pub listed_true : (s : List ℤ) (fs : List Fact) → facts_true s (facts_of_list fs) ≡ all_true_at s fs
listed_true s [] = refl
listed_true s (f ∷ fs) = ap (λ b. fact_true s f && b) (listed_true s fs)

abbrev pub some_true_at : List ℤ → List (List Fact) → Bool
some_true_at s [] = false
some_true_at s (p ∷ ps) = all_true_at s p || some_true_at s ps

parts_true : (s : List ℤ) (ps : List (List Fact)) → some_part_true s (parts_of_list ps) ≡ some_true_at s ps
parts_true s [] = refl
parts_true s (p ∷ ps) = ap₂ ◌||◌ (listed_true s p) (parts_true s ps)

split_true : (s : List ℤ) (ps : List (List Fact)) → all_true_at s (split ps) ≡ some_true_at s ps
split_true s [] = refl
split_true s (p ∷ []) = sym (or_false (all_true_at s p))
split_true s (p ∷ q ∷ ps) = and_true _ ∙ parts_true s (p ∷ q ∷ ps)

apart_true : (f : FormValue) (s : List ℤ) → all_true_at s (apart f) ≡ not (int_eq (val f s) (pos 0))
apart_true f s =
    split_true s ((Atom (plus_one f) ∷ []) ∷ (Atom (plus_one (negated f)) ∷ []) ∷ [])
    ∙ ap₂ ◌||◌ (and_true _ ∙ less_than f s) (or_false _ ∙ and_true _ ∙ more_than f s)
    ∙ twist (int_le (val f s) (pos 0)) (int_le (val (negated f) s) (pos 0))
    ∙ ap not (both_at_most (val f s) (val (negated f) s) (val-scaled (negsuc 0) f s))
  where
    twist : (a b : Bool) → (not b || not a) ≡ not (a && b)
    twist true true = refl
    twist true false = refl
    twist false true = refl
    twist false false = refl

-- ---- assertions

mutual
  pub yes_true : (a : Formula) (s : List ℤ) → all_true_at s (yes a) ≡ truth a s
  yes_true True s = refl
  yes_true False s = refl
  yes_true (Le f) s = and_true _
  yes_true (Eq f) s = equal_true f s
  yes_true (Ne f) s = apart_true f s
  yes_true (Not a) s = no_true a s
  yes_true (And all) s = yes_all_true all s
  yes_true (Or all) s = split_true s (yes_each all) ∙ yes_each_true all s
  yes_true (Imp a b) s = split_true s (no a ∷ yes b ∷ []) ∙ ap₂ ◌||◌ (no_true a s) (or_false _ ∙ yes_true b s)

  pub no_true : (a : Formula) (s : List ℤ) → all_true_at s (no a) ≡ not (truth a s)
  no_true True s = refl
  no_true False s = refl
  no_true (Le f) s = and_true _ ∙ more_than f s
  no_true (Eq f) s = apart_true f s
  no_true (Ne f) s = equal_true f s ∙ sym (not-not (int_eq (val f s) (pos 0)))
  no_true (Not a) s = yes_true a s ∙ sym (not-not (truth a s))
  no_true (And all) s = split_true s (no_each all) ∙ no_each_true all s
  no_true (Or all) s = no_all_true all s
  no_true (Imp a b) s =
      all_append s (yes a) (no b) ∙ ap₂ ◌&&◌ (yes_true a s ∙ sym (not-not (truth a s))) (no_true b s)
      ∙ sym (not-or (not (truth a s)) (truth b s))

  yes_all_true : (all : Formulas) (s : List ℤ) → all_true_at s (yes_all all) ≡ all_true all s
  yes_all_true none s = refl
  yes_all_true (more a rest) s = all_append s (yes a) (yes_all rest) ∙ ap₂ ◌&&◌ (yes_true a s) (yes_all_true rest s)

  no_all_true : (all : Formulas) (s : List ℤ) → all_true_at s (no_all all) ≡ not (some_true all s)
  no_all_true none s = refl
  no_all_true (more a rest) s =
      all_append s (no a) (no_all rest) ∙ ap₂ ◌&&◌ (no_true a s) (no_all_true rest s) ∙ sym (not-or (truth a s) (some_true rest s))

  yes_each_true : (all : Formulas) (s : List ℤ) → some_true_at s (yes_each all) ≡ some_true all s
  yes_each_true none s = refl
  yes_each_true (more a rest) s = ap₂ ◌||◌ (yes_true a s) (yes_each_true rest s)

  no_each_true : (all : Formulas) (s : List ℤ) → some_true_at s (no_each all) ≡ not (all_true all s)
  no_each_true none s = refl
  no_each_true (more a rest) s = ap₂ ◌||◌ (no_true a s) (no_each_true rest s) ∙ sym (not-and (truth a s) (all_true rest s))

-- ---- hypotheses

part_said : (p : Part) (s : List ℤ) → all_true_at s (facts_of_part p) ≡ part_true s p
part_said (Yes a) s = yes_true a s
part_said (No a) s = no_true a s

parts_said : (ps : List Part) (s : List ℤ) → all_true_at s (facts_of_parts ps) ≡ all_parts s ps
parts_said [] s = refl
parts_said (p ∷ ps) s = all_append s (facts_of_part p) (facts_of_parts ps) ∙ ap₂ ◌&&◌ (part_said p s) (parts_said ps s)

some_said : (lists : List (List Part)) (s : List ℤ) → some_true_at s (map facts_of_parts lists) ≡ some_parts s lists
some_said [] s = refl
some_said (ps ∷ lists) s = ap₂ ◌||◌ (parts_said ps s) (some_said lists s)

starts_said : (x : ℕ) (v : ℤ) (s : List ℤ) → int_eq (val (form_value ((x, pos 1) ∷ []) (neg_ℤ v)) s) (pos 0) ≡ int_eq (value_at s x) v
starts_said x v s = go (int_eq (value_at s x) v) refl
  where
    go : (b : Bool) → int_eq (value_at s x) v ≡ b → int_eq (val (form_value ((x, pos 1) ∷ []) (neg_ℤ v)) s) (pos 0) ≡ b
    go true e = let h : value_at s x ≡ v = (Decides-int_eq _ _).0 e in (Decides-int_eq (val (form_value ((x, pos 1) ∷ []) (neg_ℤ v)) s) (pos 0)).1 (omega (arith, ints))
    go false e =
        false_from_ne_true (int_eq (val (form_value ((x, pos 1) ∷ []) (neg_ℤ v)) s) (pos 0)) (λ t.
        let z : val (form_value ((x, pos 1) ∷ []) (neg_ℤ v)) s ≡ pos 0 = (Decides-int_eq _ _).0 t in
        let same : value_at s x ≡ v = omega (arith, ints) in
        both_ways (int_eq (value_at s x) v) e ((Decides-int_eq (value_at s x) v).1 same))

hypothesis_said : (h : Hypothesis) (s : List ℤ) → all_true_at s (facts_of_hypothesis h) ≡ hypothesis_true s h
hypothesis_said (Is p) s = part_said p s
hypothesis_said (Starts x v) s = equal_true (form_value ((x, pos 1) ∷ []) (neg_ℤ v)) s ∙ starts_said x v s
hypothesis_said (OneOf parts) s = split_true s (map facts_of_parts parts) ∙ some_said parts s

pub hypotheses_said : (hs : List Hypothesis) (s : List ℤ) → all_true_at s (facts_of_hypotheses hs) ≡ hypotheses_true s hs
hypotheses_said [] s = refl
hypotheses_said (h ∷ hs) s = all_append s (facts_of_hypothesis h) (facts_of_hypotheses hs) ∙ ap₂ ◌&&◌ (hypothesis_said h s) (hypotheses_said hs s)

-- ---- counts

pub split_length : (ps : List (List Fact)) → length (split ps) ≡ split_count (map length ps)
split_length [] = refl
split_length (p ∷ []) = refl
split_length (p ∷ q ∷ ps) = refl

mutual
  pub length-yes : (a : Formula) → length (yes a) ≡ count_yes a
  length-yes True = refl
  length-yes False = refl
  length-yes (Le f) = refl
  length-yes (Eq f) = refl
  length-yes (Ne f) = refl
  length-yes (Not a) = length-no a
  length-yes (And all) = length-yes_all all
  length-yes (Or all) = split_length (yes_each all) ∙ ap split_count (lengths-yes all)
  length-yes (Imp a b) = refl

  pub length-no : (a : Formula) → length (no a) ≡ count_no a
  length-no True = refl
  length-no False = refl
  length-no (Le f) = refl
  length-no (Eq f) = refl
  length-no (Ne f) = refl
  length-no (Not a) = length-yes a
  length-no (And all) = split_length (no_each all) ∙ ap split_count (lengths-no all)
  length-no (Or all) = length-no_all all
  length-no (Imp a b) = length-append (yes a) (no b) ∙ ap₂ ◌+◌ (length-yes a) (length-no b)

  length-yes_all : (all : Formulas) → length (yes_all all) ≡ count_yes_all all
  length-yes_all none = refl
  length-yes_all (more a rest) = length-append (yes a) (yes_all rest) ∙ ap₂ ◌+◌ (length-yes a) (length-yes_all rest)

  length-no_all : (all : Formulas) → length (no_all all) ≡ count_no_all all
  length-no_all none = refl
  length-no_all (more a rest) = length-append (no a) (no_all rest) ∙ ap₂ ◌+◌ (length-no a) (length-no_all rest)

  lengths-yes : (all : Formulas) → map length (yes_each all) ≡ counts_yes all
  lengths-yes none = refl
  lengths-yes (more a rest) = ap₂ ◌∷◌ (length-yes a) (lengths-yes rest)

  lengths-no : (all : Formulas) → map length (no_each all) ≡ counts_no all
  lengths-no none = refl
  lengths-no (more a rest) = ap₂ ◌∷◌ (length-no a) (lengths-no rest)
