-- Counts of lists of assertions, one after another.
use Rattle.std.proofs.Common.{◌≡◌, ◌≢◌, ℕ, ◌+◌, List, [], ◌∷◌, map, length, get_or, Bool, true, false, Vec, Global, refl, ap, ◌∙◌, arith}
use Rattle.og_typed.specs.Lists.{formula_list}
use Rattle.og_typed.specs.Plain.{formula}
use Rattle.og_typed.specs.declared.assertion.Assert.{Assert}
use Rattle.og_typed.specs.declared.assertion.Assert.TheViews as its
use Rattle.og_typed.proofs.Lists.{formula_and, formula_or}
use Rattle.og_cond.specs.declared.condition.Hypothesis.{Hypothesis}
use Rattle.og_cond.specs.declared.condition.Part.{Part}
use Rattle.og_cond.specs.Seen.{part_of, parts_of, hypothesis_of}
use Rattle.og_facts.specs.Counts.{split_count, count_part, count_parts, count_hypothesis, count_hypotheses}
use Rattle.og_facts.specs.Rooms.{count_said, count_all, counts_each, count_each}

-- of all these assertions
abbrev pub count_list : Bool → List Assert → ℕ
count_list b all = count_all b (formula_list (map formula all))

-- a conjunction and a disjunction, by the items of their `Vec`
pub all_of_and : (v : Vec Assert Global) → count_said true (formula (its.And v)) ≡ count_list true v.items
all_of_and v = ap (count_said true) (formula_and v)

pub all_of_or : (v : Vec Assert Global) → count_said false (formula (its.Or v)) ≡ count_list false v.items
all_of_or v = ap (count_said false) (formula_or v)

abbrev pub split_list : Bool → List Assert → ℕ
split_list b all = split_count (counts_each b (formula_list (map formula all)))

pub some_of_and : (v : Vec Assert Global) → count_said false (formula (its.And v)) ≡ split_list false v.items
some_of_and v = ap (count_said false) (formula_and v)

pub some_of_or : (v : Vec Assert Global) → count_said true (formula (its.Or v)) ≡ split_list true v.items
some_of_or v = ap (count_said true) (formula_or v)

split_one : (b : Bool) (a : Assert) → split_list b (a ∷ []) ≡ count_said b (formula a)
split_one true a = refl
split_one false a = refl

single : {X : Type 0} (all : List X) (d : X) → length all ≡ 1 → all ≡ get_or all 0 d ∷ []
single [] d e = absurd (omega arith)
single (x ∷ []) d e = refl
single (x ∷ y ∷ all) d e = absurd (omega arith)

pub split_single : (b : Bool) (all : List Assert) (d : Assert) → length all ≡ 1 → split_list b all ≡ count_said b (formula (get_or all 0 d))
split_single b all d e = ap (split_list b) (single all d e) ∙ split_one b (get_or all 0 d)

pub split_others : (b : Bool) (all : List Assert) → length all ≢ 1 → split_list b all ≡ 1
split_others true [] n = refl
split_others false [] n = refl
split_others b (x ∷ []) n = absurd (n refl)
split_others true (x ∷ y ∷ all) n = refl
split_others false (x ∷ y ∷ all) n = refl

-- ---- lists of parts

abbrev pub split_parts : List (Vec Part Global) → ℕ
split_parts lists = split_count (map count_parts (map parts_of lists))

pub lists_single : (lists : List (Vec Part Global)) (d : Vec Part Global) → length lists ≡ 1 → split_parts lists ≡ count_parts (parts_of (get_or lists 0 d))
lists_single lists d e = ap split_parts (single lists d e)

pub lists_others : (lists : List (Vec Part Global)) → length lists ≢ 1 → split_parts lists ≡ 1
lists_others [] n = refl
lists_others (x ∷ []) n = absurd (n refl)
lists_others (x ∷ y ∷ lists) n = refl

-- the items of a list, one after another
pub each_part : (ps : List Part) → count_each (λ p. count_part (part_of p)) ps ≡ count_parts (map part_of ps)
each_part [] = refl
each_part (p ∷ ps) = ap (λ n. count_part (part_of p) + n) (each_part ps)

pub each_hypothesis : (hs : List Hypothesis) → count_each (λ h. count_hypothesis (hypothesis_of h)) hs ≡ count_hypotheses (map hypothesis_of hs)
each_hypothesis [] = refl
each_hypothesis (h ∷ hs) = ap (λ n. count_hypothesis (hypothesis_of h) + n) (each_hypothesis hs)
