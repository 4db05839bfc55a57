-- The loop over a list of assertions.
use Rattle.std.proofs.Common.{◌≡◌, ℕ, suc, ◌+◌, ◌<◌, ◌≤◌, List, [], ◌∷◌, ◌++◌, map, length, drop, get_or, refl, sym, ap, ◌∙◌, subst, arith, drop-cons, add-one}
use Rattle.std.proofs.lemmas.Grind.{common_steps}
use Rattle.std.specs.Prelude.{Ok, Err}
use Rattle.og_parse.specs.Trees as tree
use Rattle.og_typed.specs.declared.fault.TypeFault.{TypeFault}
use Rattle.og_typed.specs.declared.fault.TypeError.{TypeError}
use Rattle.og_typed.specs.declared.fault.TypeError.TheVariants as errors
use Rattle.og_typed.specs.Answer.{FailsAs, IsResolved}
use Rattle.og_typed.specs.Syntax.{Formula, Formulas, none, more}
use Rattle.og_typed.specs.Lists.{formula_list}
use Rattle.og_typed.specs.Resolved.{Checked, ◌>>=◌, Scope, Use, assertion, assertions}

-- the formulas after others
abbrev pub behind : List Formula → Checked Formulas → Checked Formulas
behind [] answer = answer
behind (f ∷ fs) answer = behind fs answer >>= λ rest. Ok (more f rest)

pub behind_fault : (fs : List Formula) (fault : TypeFault) → behind fs (Err fault) ≡ Err fault
behind_fault [] fault = refl
behind_fault (f ∷ fs) fault = ap (λ (answer : Checked Formulas). answer >>= λ rest. Ok (more f rest)) (behind_fault fs fault)

pub behind_more : (fs : List Formula) (f : Formula) (answer : Checked Formulas) → behind (fs ++ f ∷ []) answer ≡ behind fs (answer >>= λ rest. Ok (more f rest))
behind_more [] f answer = refl
behind_more (g ∷ fs) f answer = ap (λ (a : Checked Formulas). a >>= λ rest. Ok (more g rest)) (behind_more fs f answer)

pub behind_all : (fs : List Formula) → behind fs (Ok none) ≡ Ok (formula_list fs)
behind_all [] = refl
behind_all (f ∷ fs) = ap (λ (a : Checked Formulas). a >>= λ rest. Ok (more f rest)) (behind_all fs)

-- one assertion more
pub list_step : (scope : Scope) (use_of : Use) (fs : List Formula) (a : tree.Assertion) (f : Formula) (others : tree.Assertions) → assertion scope use_of a ≡ Ok f → behind fs (assertions scope use_of (tree.more a others)) ≡ behind (fs ++ f ∷ []) (assertions scope use_of others)
list_step scope use_of fs a f others e =
    ap (λ (answer : Checked Formula). behind fs (answer >>= λ b. assertions scope use_of others >>= λ bs. Ok (more b bs))) e
    ∙ sym (behind_more fs f (assertions scope use_of others))

pub list_fails : (scope : Scope) (use_of : Use) (fs : List Formula) (a : tree.Assertion) (fault : TypeFault) (others : tree.Assertions) → assertion scope use_of a ≡ Err fault → behind fs (assertions scope use_of (tree.more a others)) ≡ Err fault
list_fails scope use_of fs a fault others e =
    ap (λ (answer : Checked Formula). behind fs (answer >>= λ b. assertions scope use_of others >>= λ bs. Ok (more b bs))) e
    ∙ behind_fault fs fault

pub drop_all : {X : Type 0} (xs : List X) (i : ℕ) → length xs ≤ i → drop i xs ≡ []
drop_all xs i h = grind (arith, common_steps)

pub drop_at : {X : Type 0} (all : List X) (i : ℕ) (x : X) → i < length all → x ≡ get_or all i x → drop i all ≡ x ∷ drop (i + 1) all
drop_at all i x h is =
    drop-cons all i x h ∙ ap (λ y. y ∷ drop (suc i) all) (sym is) ∙ ap (λ k. x ∷ drop k all) (sym (add-one i))

pub map_push : {X Y : Type 0} (f : X → Y) (xs : List X) (x : X) → map f (xs ++ x ∷ []) ≡ map f xs ++ f x ∷ []
map_push f [] x = refl
map_push f (y ∷ xs) x = ap (λ ys. f y ∷ ys) (map_push f xs x)

-- a turn of the loop
pub list_turn : {X Z : Type 0} (scope : Scope) (use_of : Use) (view : Z → Formula) (tree_at : X → tree.Assertion) (out new : List Z) (z : Z) (all : List X) (i : ℕ) (x : X) → i < length all → x ≡ get_or all i x → new ≡ out ++ z ∷ [] → assertion scope use_of (tree_at x) ≡ Ok (view z)
    → behind (map view new) (assertions scope use_of (tree.listed (map tree_at (drop (i + 1) all)))) ≡ behind (map view out) (assertions scope use_of (tree.listed (map tree_at (drop i all))))
list_turn scope use_of view tree_at out new z all i x h is made e =
    ap (λ l. behind l (assertions scope use_of (tree.listed (map tree_at (drop (i + 1) all))))) (ap (map view) made ∙ map_push view out z)
    ∙ sym (list_step scope use_of (map view out) (tree_at x) (view z) (tree.listed (map tree_at (drop (i + 1) all))) e)
    ∙ ap (λ l. behind (map view out) (assertions scope use_of (tree.listed (map tree_at l)))) (sym (drop_at all i x h is))

-- a turn that fails
pub list_stops : {X : Type 0} (scope : Scope) (use_of : Use) (tree_at : X → tree.Assertion) (fs : List Formula) (all : List X) (i : ℕ) (x : X) (answer : Checked Formulas) (fault : TypeFault) → i < length all → x ≡ get_or all i x
    → behind fs (assertions scope use_of (tree.listed (map tree_at (drop i all)))) ≡ answer → assertion scope use_of (tree_at x) ≡ Err fault → answer ≡ Err fault
list_stops scope use_of tree_at fs all i x answer fault h is inv e =
    sym inv
    ∙ ap (λ l. behind fs (assertions scope use_of (tree.listed (map tree_at l)))) (drop_at all i x h is)
    ∙ list_fails scope use_of fs (tree_at x) fault (tree.listed (map tree_at (drop (i + 1) all))) e

pub list_end : {X Z : Type 0} (scope : Scope) (use_of : Use) (view : Z → Formula) (tree_at : X → tree.Assertion) (out : List Z) (all : List X) (i : ℕ) (answer : Checked Formulas) → length all ≤ i
    → behind (map view out) (assertions scope use_of (tree.listed (map tree_at (drop i all)))) ≡ answer → answer ≡ Ok (formula_list (map view out))
list_end scope use_of view tree_at out all i answer h inv =
    sym inv
    ∙ ap (λ l. behind (map view out) (assertions scope use_of (tree.listed (map tree_at l)))) (drop_all all i h)
    ∙ behind_all (map view out)

-- ---- errors

-- an error of a part is one of the whole
pub fails_from : {X Y Z : Type 0} (view : X → Z) (e d : TypeError) (part : Checked Y) (whole : Checked Z) → FailsAs e part → d ≡ e → ((fault : TypeFault) → part ≡ Err fault → whole ≡ Err fault) → IsResolved view (Err d) whole
fails_from view errors.Memory d part whole h same f = subst (λ x. IsResolved view (Err x) whole) (sym same) tt
fails_from view (errors.Fault fault) d part whole h same f = subst (λ x. IsResolved view (Err x) whole) (sym same) (f fault h)
