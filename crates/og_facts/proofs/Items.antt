-- The facts of lists, by the items of a `Vec`.
use Rattle.std.proofs.Common.{◌≡◌, ℕ, suc, ◌+◌, ◌<◌, ◌≤◌, List, [], ◌∷◌, ◌++◌, map, length, drop, get_or, Bool, true, false, Vec, Global, Option, Some, None, refl, sym, ap, ◌∙◌, arith}
use Rattle.std.specs.Prelude.{option_map}
use Rattle.std.proofs.lemmas.Option.{none-some, same_Some, option_and_then_some}
use Rattle.og_linear.specs.Linear.{FormValue}
use Rattle.og_linear.specs.Bounded.{MapValue}
use Rattle.og_typed.specs.Lists.{formula_list}
use Rattle.og_typed.specs.Plain.{formula}
use Rattle.og_typed.specs.declared.assertion.Assert.{Assert}
use Rattle.og_typed.specs.declared.assertion.Assert.TheViews as its
use Rattle.og_typed.proofs.Lists.{formula_and, formula_or}
use Rattle.og_cond.specs.declared.condition.Part.{Part}
use Rattle.og_cond.specs.Seen.{parts_of}
use Rattle.og_subst.specs.Subst.{low, high}
use Rattle.og_facts.specs.declared.fact.Fact as fact_type
use Rattle.og_facts.specs.declared.fact.Fact.TheViews as fact
use Rattle.og_facts.specs.Facts.{Fact, split}
use Rattle.og_facts.specs.Plain.{plain_fact}
use Rattle.og_facts.specs.Answer.{shown, added_to}
use Rattle.og_facts.specs.Walk.{part_and, walk, walk_all, walk_each, walk_parts, walk_lists, beyond, walk_values}
use Rattle.og_facts.proofs.Adding.{room_after_parts, parts_end, parts_more, map_push, drop_item}
use Rattle.og_facts.proofs.Trees.{split_many}

-- a conjunction and a disjunction
pub walk_and_true : (forms : Option MapValue) (v : Vec Assert Global) → walk forms true (formula (its.And v)) ≡ walk_all forms true (formula_list (map formula v.items))
walk_and_true forms v = ap (walk forms true) (formula_and v)

pub walk_and_false : (forms : Option MapValue) (v : Vec Assert Global) → walk forms false (formula (its.And v)) ≡ option_map split (walk_each forms false (formula_list (map formula v.items)))
walk_and_false forms v = ap (walk forms false) (formula_and v)

pub walk_or_true : (forms : Option MapValue) (v : Vec Assert Global) → walk forms true (formula (its.Or v)) ≡ option_map split (walk_each forms true (formula_list (map formula v.items)))
walk_or_true forms v = ap (walk forms true) (formula_or v)

pub walk_or_false : (forms : Option MapValue) (v : Vec Assert Global) → walk forms false (formula (its.Or v)) ≡ walk_all forms false (formula_list (map formula v.items))
walk_or_false forms v = ap (walk forms false) (formula_or v)

-- one fact more
pub pushed : (old new : List fact_type.Fact) (f : fact_type.Fact) → new ≡ old ++ f ∷ [] → map plain_fact new ≡ map plain_fact old ++ plain_fact f ∷ []
pushed old new f e = ap (map plain_fact) e ∙ go old
  where
    go : (l : List fact_type.Fact) → map plain_fact (l ++ f ∷ []) ≡ map plain_fact l ++ plain_fact f ∷ []
    go [] = refl
    go (g ∷ l) = ap (λ k. plain_fact g ∷ k) (go l)

-- a split of these parts is one fact more
pub split_pushed : (old new : List fact_type.Fact) (v : Vec (Vec fact_type.Fact Global) Global) (o : Option (List (List Fact))) → new ≡ old ++ fact.Split v ∷ [] → 1 < length v.items → o ≡ Some (map shown v.items) → added_to (map plain_fact old) (option_map split o) ≡ Some (map plain_fact new)
split_pushed old new v o e h is =
    ap (λ p. added_to (map plain_fact old) (option_map split p)) is
    ∙ ap (λ l. Some (map plain_fact old ++ l)) (split_many v h)
    ∙ ap Some (sym (pushed old new (fact.Split v) e))

pub each_end : (forms : Option MapValue) (b : Bool) (out : List (Vec fact_type.Fact Global)) (all : List Assert) (i : ℕ) → length all ≤ i → room_after_parts (map shown out) (walk_each forms b (formula_list (map formula (drop i all)))) ≡ walk_each forms b (formula_list (map formula all)) → walk_each forms b (formula_list (map formula all)) ≡ Some (map shown out)
each_end forms b out all i h inv =
    parts_end shown (λ a. walk forms b (formula a)) (λ l. walk_each forms b (formula_list (map formula l))) (λ x xs. refl) refl out all i _ h inv

pub lists_end : (out : List (Vec fact_type.Fact Global)) (all : List (Vec Part Global)) (i : ℕ) → length all ≤ i → room_after_parts (map shown out) (walk_lists (map parts_of (drop i all))) ≡ walk_lists (map parts_of all) → walk_lists (map parts_of all) ≡ Some (map shown out)
lists_end out all i h inv =
    parts_end shown (λ ps. walk_parts (parts_of ps)) (λ l. walk_lists (map parts_of l)) (λ x xs. refl) refl out all i _ h inv

-- ---- values

mapped : {A B : Type 0} (f : A → B) (o : Option A) (y : B) → option_map f o ≡ Some y → (x : A) × (o ≡ Some x) × (f x ≡ y)
mapped f None y e = absurd (none-some y e)
mapped f (Some x) y e = (x, refl, same_Some (f x) y e)

-- two parts more
pub values_turn : (out middle new : List (Vec fact_type.Fact Global)) (p q : Vec fact_type.Fact Global) (all : List FormValue) (i : ℕ) (v l h : FormValue) → i < length all → v ≡ get_or all i v → middle ≡ out ++ p ∷ [] → new ≡ middle ++ q ∷ [] → low v ≡ Some l → high v ≡ Some h → beyond (Some l) ≡ Some (shown p) → beyond (Some h) ≡ Some (shown q)
    → room_after_parts (map shown new) (walk_values (drop (i + 1) all)) ≡ room_after_parts (map shown out) (walk_values (drop i all))
values_turn out middle new p q all i v l h lt is made_p made_q el eh ep eq =
    let rest = walk_values (drop (i + 1) all) in
    ap (λ k. room_after_parts k rest) (ap (map shown) made_q ∙ map_push shown middle q)
    ∙ parts_more (map shown middle) (shown q) (beyond (high v)) rest (ap beyond eh ∙ eq)
    ∙ ap (λ k. room_after_parts k (part_and (beyond (high v)) rest)) (ap (map shown) made_p ∙ map_push shown out p)
    ∙ parts_more (map shown out) (shown p) (beyond (low v)) (part_and (beyond (high v)) rest) (ap beyond el ∙ ep)
    ∙ ap (λ k. room_after_parts (map shown out) (walk_values k)) (sym (drop_item all i v lt is))

-- a value gives two parts
pub values_many : (vs : List FormValue) (ps : List (List Fact)) → 0 < length vs → walk_values vs ≡ Some ps → 1 < length ps
values_many [] ps h e = absurd (omega arith)
values_many (v ∷ vs) ps h e =
    option_and_then_some (λ p. option_map (λ qs. p ∷ qs) (part_and (beyond (high v)) (walk_values vs))) (beyond (low v)) ps e
    (λ p ep e2.
    let k = mapped (λ qs. p ∷ qs) (part_and (beyond (high v)) (walk_values vs)) ps e2 in
    option_and_then_some (λ q. option_map (λ qs. q ∷ qs) (walk_values vs)) (beyond (high v)) k.0 k.1
    (λ q eq e3.
    let m = mapped (λ qs. q ∷ qs) (walk_values vs) k.0 e3 in
    let one : length ps ≡ suc (length k.0) = ap length (sym k.2) in
    let two : length k.0 ≡ suc (length m.0) = ap length (sym m.2) in
    omega arith))
