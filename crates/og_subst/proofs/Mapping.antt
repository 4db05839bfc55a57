-- The loops over lists of assertions.
use Rattle.std.proofs.Common.{◌≡◌, ℕ, suc, ◌+◌, ◌<◌, ◌≤◌, List, [], ◌∷◌, ◌++◌, map, length, drop, get_or, Option, Some, None, Vec, Global, refl, sym, ap, ◌∙◌, subst, drop-cons, add-one, drop_of_length-le}
use Rattle.std.specs.Prelude.{option_and_then, option_map, Err}
use Rattle.og_linear.specs.Linear.{FormValue}
use Rattle.og_linear.specs.Bounded.{MapValue}
use Rattle.og_linear.specs.Answer.{IsAnswer, FailsAs}
use Rattle.og_linear.specs.declared.fault.FormFault.{FormFault}
use Rattle.og_linear.specs.declared.fault.FormError.{FormError}
use Rattle.og_linear.specs.declared.fault.FormError.TheVariants as errors
use Rattle.og_typed.specs.Syntax.{Formula, Formulas, Le, And, Or, none, more}
use Rattle.og_typed.specs.Lists.{formula_list}
use Rattle.og_typed.specs.declared.assertion.Assert.{Assert}
use Rattle.og_typed.specs.declared.assertion.Assert.TheViews as its
use Rattle.og_typed.specs.Plain.{formula}
use Rattle.og_typed.proofs.Lists.{formula_and, formula_or}
use Rattle.og_subst.specs.Subst.{after, after_all, low, high, ranges}

-- the formulas after others
abbrev pub behind : List Formula → Option Formulas → Option Formulas
behind [] answer = answer
behind (f ∷ fs) answer = option_map (more f) (behind fs answer)

behind_none : (fs : List Formula) → behind fs None ≡ None
behind_none [] = refl
behind_none (f ∷ fs) = ap (option_map (more f)) (behind_none fs)

behind_more : (fs : List Formula) (f : Formula) (answer : Option Formulas) → behind (fs ++ f ∷ []) answer ≡ behind fs (option_map (more f) answer)
behind_more [] f answer = refl
behind_more (g ∷ fs) f answer = ap (option_map (more g)) (behind_more fs f answer)

behind_all : (fs : List Formula) → behind fs (Some none) ≡ Some (formula_list fs)
behind_all [] = refl
behind_all (f ∷ fs) = ap (option_map (more f)) (behind_all fs)

drop_at : {X : Type 0} (all : List X) (i : ℕ) (x : X) → i < length all → x ≡ get_or all i x → drop i all ≡ x ∷ drop (i + 1) all
drop_at all i x h is =
    drop-cons all i x h ∙ ap (λ y. y ∷ drop (suc i) all) (sym is) ∙ ap (λ k. x ∷ drop k all) (sym (add-one i))

map_push : {X Y : Type 0} (f : X → Y) (xs : List X) (x : X) → map f (xs ++ x ∷ []) ≡ map f xs ++ f x ∷ []
map_push f [] x = refl
map_push f (y ∷ xs) x = ap (λ ys. f y ∷ ys) (map_push f xs x)

-- ---- the assertions under a map

-- one assertion more
pub after_turn : {X Z : Type 0} (m : MapValue) (view : Z → Formula) (tree : X → Formula) (out new : List Z) (z : Z) (all : List X) (i : ℕ) (x : X) → i < length all → x ≡ get_or all i x → new ≡ out ++ z ∷ [] → after m (tree x) ≡ Some (view z)
    → behind (map view new) (after_all m (formula_list (map tree (drop (i + 1) all)))) ≡ behind (map view out) (after_all m (formula_list (map tree (drop i all))))
after_turn m view tree out new z all i x h is made e =
    let rest = after_all m (formula_list (map tree (drop (i + 1) all))) in
    ap (λ l. behind l rest) (ap (map view) made ∙ map_push view out z)
    ∙ behind_more (map view out) (view z) rest
    ∙ ap (λ (o : Option Formula). behind (map view out) (option_and_then (λ b. option_map (more b) rest) o)) (sym e)
    ∙ ap (λ l. behind (map view out) (after_all m (formula_list (map tree l)))) (sym (drop_at all i x h is))

-- one that has no answer
pub after_stops : {X : Type 0} (m : MapValue) (tree : X → Formula) (fs : List Formula) (all : List X) (i : ℕ) (x : X) (answer : Option Formulas) → i < length all → x ≡ get_or all i x
    → behind fs (after_all m (formula_list (map tree (drop i all)))) ≡ answer → after m (tree x) ≡ None → answer ≡ None
after_stops m tree fs all i x answer h is inv e =
    let rest = after_all m (formula_list (map tree (drop (i + 1) all))) in
    sym inv
    ∙ ap (λ l. behind fs (after_all m (formula_list (map tree l)))) (drop_at all i x h is)
    ∙ ap (λ (o : Option Formula). behind fs (option_and_then (λ b. option_map (more b) rest) o)) e
    ∙ behind_none fs

pub after_end : {X Z : Type 0} (m : MapValue) (view : Z → Formula) (tree : X → Formula) (out : List Z) (all : List X) (i : ℕ) (answer : Option Formulas) → length all ≤ i
    → behind (map view out) (after_all m (formula_list (map tree (drop i all)))) ≡ answer → answer ≡ Some (formula_list (map view out))
after_end m view tree out all i answer h inv =
    sym inv
    ∙ ap (λ l. behind (map view out) (after_all m (formula_list (map tree l)))) (drop_of_length-le all h)
    ∙ behind_all (map view out)

-- a conjunction and a disjunction, by the items of their `Vec`
pub after_and : (m : MapValue) (a : Assert) (v : Vec Assert Global) (all : List Assert) → a ≡ its.And v → all ≡ v.items → after m (formula a) ≡ option_map And (after_all m (formula_list (map formula all)))
after_and m a v all is same =
    ap (λ x. after m (formula x)) is
    ∙ ap (after m) (formula_and v)
    ∙ ap (λ l. option_map And (after_all m (formula_list (map formula l)))) (sym same)

pub after_or : (m : MapValue) (a : Assert) (v : Vec Assert Global) (all : List Assert) → a ≡ its.Or v → all ≡ v.items → after m (formula a) ≡ option_map Or (after_all m (formula_list (map formula all)))
after_or m a v all is same =
    ap (λ x. after m (formula x)) is
    ∙ ap (after m) (formula_or v)
    ∙ ap (λ l. option_map Or (after_all m (formula_list (map formula l)))) (sym same)

-- ---- the ranges of values

-- two ranges more
pub ranges_turn : {Z : Type 0} (view : Z → Formula) (out middle new : List Z) (a b : Z) (all : List FormValue) (i : ℕ) (v l h : FormValue) → i < length all → v ≡ get_or all i v → middle ≡ out ++ a ∷ [] → new ≡ middle ++ b ∷ [] → view a ≡ Le l → view b ≡ Le h → low v ≡ Some l → high v ≡ Some h
    → behind (map view new) (ranges (drop (i + 1) all)) ≡ behind (map view out) (ranges (drop i all))
ranges_turn view out middle new a b all i v l h lt is made_a made_b is_a is_b el eh =
    let rest = ranges (drop (i + 1) all) in
    ap (λ k. behind k rest) (ap (map view) made_b ∙ map_push view middle b)
    ∙ behind_more (map view middle) (view b) rest
    ∙ ap (λ k. behind k (option_map (more (view b)) rest)) (ap (map view) made_a ∙ map_push view out a)
    ∙ behind_more (map view out) (view a) (option_map (more (view b)) rest)
    ∙ ap (behind (map view out)) (two (view a) (view b) rest)
    ∙ ap (λ f. behind (map view out) (option_map (λ others. more f (more (view b) others)) rest)) is_a
    ∙ ap (λ f. behind (map view out) (option_map (λ others. more (Le l) (more f others)) rest)) is_b
    ∙ ap (λ (o : Option FormValue). behind (map view out) (option_and_then (λ u. option_map (λ others. more (Le l) (more (Le u) others)) rest) o)) (sym eh)
    ∙ ap (λ (o : Option FormValue). behind (map view out) (option_and_then (λ w. option_and_then (λ u. option_map (λ others. more (Le w) (more (Le u) others)) rest) (high v)) o)) (sym el)
    ∙ ap (λ k. behind (map view out) (ranges k)) (sym (drop_at all i v lt is))
  where
    two : (f g : Formula) (o : Option Formulas) → option_map (more f) (option_map (more g) o) ≡ option_map (λ others. more f (more g others)) o
    two f g None = refl
    two f g (Some others) = refl

-- one without a bound below
pub low_stops : (fs : List Formula) (all : List FormValue) (i : ℕ) (v : FormValue) (answer : Option Formulas) → i < length all → v ≡ get_or all i v → behind fs (ranges (drop i all)) ≡ answer → low v ≡ None → answer ≡ None
low_stops fs all i v answer lt is inv e =
    let rest = ranges (drop (i + 1) all) in
    sym inv
    ∙ ap (λ k. behind fs (ranges k)) (drop_at all i v lt is)
    ∙ ap (λ (o : Option FormValue). behind fs (option_and_then (λ w. option_and_then (λ u. option_map (λ others. more (Le w) (more (Le u) others)) rest) (high v)) o)) e
    ∙ behind_none fs

-- one without a bound above
pub high_stops : (fs : List Formula) (all : List FormValue) (i : ℕ) (v l : FormValue) (answer : Option Formulas) → i < length all → v ≡ get_or all i v → behind fs (ranges (drop i all)) ≡ answer → low v ≡ Some l → high v ≡ None → answer ≡ None
high_stops fs all i v l answer lt is inv el e =
    let rest = ranges (drop (i + 1) all) in
    sym inv
    ∙ ap (λ k. behind fs (ranges k)) (drop_at all i v lt is)
    ∙ ap (λ (o : Option FormValue). behind fs (option_and_then (λ w. option_and_then (λ u. option_map (λ others. more (Le w) (more (Le u) others)) rest) (high v)) o)) el
    ∙ ap (λ (o : Option FormValue). behind fs (option_and_then (λ u. option_map (λ others. more (Le l) (more (Le u) others)) rest) o)) e
    ∙ behind_none fs

pub ranges_end : {Z : Type 0} (view : Z → Formula) (out : List Z) (all : List FormValue) (i : ℕ) (answer : Option Formulas) → length all ≤ i → behind (map view out) (ranges (drop i all)) ≡ answer → answer ≡ Some (formula_list (map view out))
ranges_end view out all i answer h inv =
    sym inv ∙ ap (λ k. behind (map view out) (ranges k)) (drop_of_length-le all h) ∙ behind_all (map view out)

-- ---- errors

-- an error of a part is one of the whole
pub fails_from : {X Y Z : Type 0} (view : X → Z) (fault : FormFault) (e d : FormError) (part : Option Y) (whole : Option Z) → FailsAs e fault part → d ≡ e → (part ≡ None → whole ≡ None) → IsAnswer view fault (Err d) whole
fails_from view fault errors.Memory d part whole h same f = subst (λ x. IsAnswer view fault (Err x) whole) (sym same) tt
fails_from view fault (errors.Fault g) d part whole h same f = subst (λ x. IsAnswer view fault (Err x) whole) (sym same) (h.0, f h.1)
