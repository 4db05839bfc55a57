-- The facts as they are made, form by form: each number is refused where it does not fit.
use Rattle.std.specs.Prelude.{pos, neg_ℤ, List, [], ◌∷◌, ◌++◌, Bool, true, false, Option, Some, None, option_and_then, option_map}
use Rattle.og_linear.specs.Linear.{FormValue, form_value}
use Rattle.og_linear.specs.Bounded.{MapValue, apply}
use Rattle.og_typed.specs.Syntax.{Formula, Formulas, True, False, Le, Eq, Ne, Not, And, Or, Imp, none, more}
use Rattle.og_subst.specs.Subst.{low, high}
use Rattle.og_cond.specs.Condition.{Part, Yes, No, Hypothesis, Is, Starts, OneOf, Goal, Holds, Fits, Never}
use Rattle.og_facts.specs.declared.relations.Relation.{Relation}
use Rattle.og_facts.specs.declared.relations.Relation.TheVariants as relation
use Rattle.og_facts.specs.Facts.{Fact, Atom, impossible, plus_one, negated, split, equal, apart, yes, no, checked_facts}

-- the facts that say that an assertion is true, or that it is false
abbrev pub said : Bool → Formula → List Fact
said true a = yes a
said false a = no a

-- the facts of a relation of the form
abbrev pub relation_facts : Relation → FormValue → List Fact
relation_facts relation.AtMost f = Atom f ∷ []
relation_facts relation.Above f = Atom (plus_one (negated f)) ∷ []
relation_facts relation.Equal f = equal f
relation_facts relation.Apart f = apart f

-- the form under the map, if there is one
abbrev pub under : Option MapValue → FormValue → Option FormValue
under None f = Some f
under (Some m) f = apply m f

-- ---- one after the other

abbrev pub joined : Option (List Fact) → Option (List Fact) → Option (List Fact)
joined front rest = option_and_then (λ fs. option_map (λ gs. fs ++ gs) rest) front

abbrev pub part_and : Option (List Fact) → Option (List (List Fact)) → Option (List (List Fact))
part_and front rest = option_and_then (λ p. option_map (λ ps. p ∷ ps) rest) front

-- ---- assertions

module _ (forms : Option MapValue) where
  abbrev pub walk_relation : Relation → FormValue → Option (List Fact)
  walk_relation r f = option_and_then (λ g. checked_facts (relation_facts r g)) (under forms f)

  abbrev mutual
    pub walk : Bool → Formula → Option (List Fact)
    walk true True = Some []
    walk false True = Some (impossible ∷ [])
    walk true False = Some (impossible ∷ [])
    walk false False = Some []
    walk true (Le f) = walk_relation relation.AtMost f
    walk false (Le f) = walk_relation relation.Above f
    walk true (Eq f) = walk_relation relation.Equal f
    walk false (Eq f) = walk_relation relation.Apart f
    walk true (Ne f) = walk_relation relation.Apart f
    walk false (Ne f) = walk_relation relation.Equal f
    walk true (Not a) = walk false a
    walk false (Not a) = walk true a
    walk true (And all) = walk_all true all
    walk false (And all) = option_map split (walk_each false all)
    walk true (Or all) = option_map split (walk_each true all)
    walk false (Or all) = walk_all false all
    walk true (Imp a b) = option_map split (part_and (walk false a) (part_and (walk true b) (Some [])))
    walk false (Imp a b) = joined (walk true a) (walk false b)

    pub walk_all : Bool → Formulas → Option (List Fact)
    walk_all b none = Some []
    walk_all b (more a rest) = joined (walk b a) (walk_all b rest)

    pub walk_each : Bool → Formulas → Option (List (List Fact))
    walk_each b none = Some []
    walk_each b (more a rest) = part_and (walk b a) (walk_each b rest)

-- ---- hypotheses

abbrev pub walk_part : Part → Option (List Fact)
walk_part (Yes a) = walk None true a
walk_part (No a) = walk None false a

abbrev pub walk_parts : List Part → Option (List Fact)
walk_parts [] = Some []
walk_parts (p ∷ ps) = joined (walk_part p) (walk_parts ps)

abbrev pub walk_lists : List (List Part) → Option (List (List Fact))
walk_lists [] = Some []
walk_lists (ps ∷ rest) = part_and (walk_parts ps) (walk_lists rest)

abbrev pub walk_hypothesis : Hypothesis → Option (List Fact)
walk_hypothesis (Is p) = walk_part p
walk_hypothesis (Starts x v) = checked_facts (equal (form_value ((x, pos 1) ∷ []) (neg_ℤ v)))
walk_hypothesis (OneOf lists) = option_map split (walk_lists lists)

abbrev pub walk_hypotheses : List Hypothesis → Option (List Fact)
walk_hypotheses [] = Some []
walk_hypotheses (h ∷ hs) = joined (walk_hypothesis h) (walk_hypotheses hs)

-- ---- the goal

-- one part: the bound is above 0
abbrev pub beyond : Option FormValue → Option (List Fact)
beyond bound = option_and_then (λ f. checked_facts (relation_facts relation.Above f)) bound

-- for each value that it is too low, and that it is too high
abbrev pub walk_values : List FormValue → Option (List (List Fact))
walk_values [] = Some []
walk_values (v ∷ vs) = part_and (beyond (low v)) (part_and (beyond (high v)) (walk_values vs))

-- the goal is false after the action with this map and these values
abbrev pub walk_goal : MapValue → List FormValue → Goal → Option (List Fact)
walk_goal m vs (Holds a) = walk (Some m) false a
walk_goal m vs Fits = option_map split (walk_values vs)
walk_goal m vs Never = Some []
