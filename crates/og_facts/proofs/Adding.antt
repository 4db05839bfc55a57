-- Loops that add facts, or parts, one element after another.
use Rattle.std.proofs.Common.{◌≡◌, ℕ, ◌+◌, suc, ◌<◌, ◌≤◌, List, [], ◌∷◌, ◌++◌, map, length, drop, get_or, drop-cons, add-one, drop_of_length-le, Option, Some, None, refl, sym, ap, ◌∙◌, append_assoc}
use Rattle.std.specs.Prelude.{option_map}
use Rattle.std.proofs.lemmas.List.{append-nil}
use Rattle.std.proofs.lemmas.Option.{none-some, same_Some}
use Rattle.og_facts.specs.Facts.{Fact}
use Rattle.og_facts.specs.Answer.{added_to}
use Rattle.og_facts.specs.Walk.{joined, part_and}

pub drop_item : {X : Type 0} (all : List X) (i : ℕ) (x : X) → i < length all → x ≡ get_or all i x → drop i all ≡ x ∷ drop (i + 1) all
drop_item all i x h is =
    drop-cons all i x h ∙ ap (λ y. y ∷ drop (suc i) all) (sym is) ∙ ap (λ k. x ∷ drop k all) (sym (add-one i))

-- ---- facts after others

pub added_to_joined : (old new : List Fact) (o rest : Option (List Fact)) → added_to old o ≡ Some new → added_to new rest ≡ added_to old (joined o rest)
added_to_joined old new None rest e = absurd (none-some new e)
added_to_joined old new (Some fs) None e = refl
added_to_joined old new (Some fs) (Some gs) e = ap Some (ap (λ l. l ++ gs) (sym (same_Some (old ++ fs) new e)) ∙ append_assoc old fs gs)

pub joined_stops : (old : List Fact) (o rest : Option (List Fact)) → added_to old o ≡ None → added_to old (joined o rest) ≡ None
joined_stops old None rest e = refl
joined_stops old (Some fs) rest e = absurd (none-some (old ++ fs) (sym e))

pub joined_stops_later : (old new : List Fact) (o rest : Option (List Fact)) → added_to old o ≡ Some new → added_to new rest ≡ None → added_to old (joined o rest) ≡ None
joined_stops_later old new o rest e d = sym (added_to_joined old new o rest e) ∙ d

pub added_to_none : (o : Option (List Fact)) → added_to [] o ≡ o
added_to_none None = refl
added_to_none (Some fs) = refl

-- whole is the list's facts, each element's after those before it
module _ {X : Type 0} (one : X → Option (List Fact)) (whole : List X → Option (List Fact)) (more_is : (x : X) (xs : List X) → whole (x ∷ xs) ≡ joined (one x) (whole xs)) (none_is : whole [] ≡ Some []) where
  at_turn : (all : List X) (i : ℕ) (x : X) → i < length all → x ≡ get_or all i x → whole (drop i all) ≡ joined (one x) (whole (drop (i + 1) all))
  at_turn all i x h is = ap whole (drop_item all i x h is) ∙ more_is x (drop (i + 1) all)

  pub adds_turn : (old new : List Fact) (all : List X) (i : ℕ) (x : X) → i < length all → x ≡ get_or all i x → added_to old (one x) ≡ Some new → added_to new (whole (drop (i + 1) all)) ≡ added_to old (whole (drop i all))
  adds_turn old new all i x h is e =
      added_to_joined old new (one x) (whole (drop (i + 1) all)) e ∙ ap (added_to old) (sym (at_turn all i x h is))

  pub adds_stops : (old : List Fact) (all : List X) (i : ℕ) (x : X) (answer : Option (List Fact)) → i < length all → x ≡ get_or all i x → added_to old (whole (drop i all)) ≡ answer → added_to old (one x) ≡ None → answer ≡ None
  adds_stops old all i x answer h is inv e =
      sym inv ∙ ap (added_to old) (at_turn all i x h is) ∙ joined_stops old (one x) (whole (drop (i + 1) all)) e

  pub adds_end : (old : List Fact) (all : List X) (i : ℕ) (answer : Option (List Fact)) → length all ≤ i → added_to old (whole (drop i all)) ≡ answer → answer ≡ Some old
  adds_end old all i answer h inv =
      sym inv ∙ ap (λ l. added_to old (whole l)) (drop_of_length-le all h) ∙ ap (added_to old) none_is ∙ ap Some (append-nil old)

-- ---- parts after others

abbrev pub room_after_parts : List (List Fact) → Option (List (List Fact)) → Option (List (List Fact))
room_after_parts front added = option_map (λ ps. front ++ ps) added

pub parts_more : (front : List (List Fact)) (p : List Fact) (o : Option (List Fact)) (rest : Option (List (List Fact))) → o ≡ Some p → room_after_parts (front ++ p ∷ []) rest ≡ room_after_parts front (part_and o rest)
parts_more front p o None e = sym (ap (λ (w : Option (List Fact)). room_after_parts front (part_and w None)) e)
parts_more front p o (Some ps) e = ap Some (append_assoc front (p ∷ []) ps) ∙ sym (ap (λ (w : Option (List Fact)). room_after_parts front (part_and w (Some ps))) e)

pub parts_stop : (front : List (List Fact)) (o : Option (List Fact)) (rest : Option (List (List Fact))) → o ≡ None → room_after_parts front (part_and o rest) ≡ None
parts_stop front o rest e = ap (λ (w : Option (List Fact)). room_after_parts front (part_and w rest)) e

pub map_push : {X Y : Type 0} (f : X → Y) (xs : List X) (x : X) → map f (xs ++ x ∷ []) ≡ map f xs ++ f x ∷ []
map_push f [] x = refl
map_push f (y ∷ xs) x = ap (λ ys. f y ∷ ys) (map_push f xs x)

module _ {X Z : Type 0} (view : Z → List Fact) (one : X → Option (List Fact)) (whole : List X → Option (List (List Fact))) (more_is : (x : X) (xs : List X) → whole (x ∷ xs) ≡ part_and (one x) (whole xs)) (none_is : whole [] ≡ Some []) where
  part_turn : (all : List X) (i : ℕ) (x : X) → i < length all → x ≡ get_or all i x → whole (drop i all) ≡ part_and (one x) (whole (drop (i + 1) all))
  part_turn all i x h is = ap whole (drop_item all i x h is) ∙ more_is x (drop (i + 1) all)

  pub parts_turn : (out new : List Z) (z : Z) (all : List X) (i : ℕ) (x : X) → i < length all → x ≡ get_or all i x → new ≡ out ++ z ∷ [] → one x ≡ Some (view z) → room_after_parts (map view new) (whole (drop (i + 1) all)) ≡ room_after_parts (map view out) (whole (drop i all))
  parts_turn out new z all i x h is made e =
      ap (λ l. room_after_parts l (whole (drop (i + 1) all))) (ap (map view) made ∙ map_push view out z)
      ∙ parts_more (map view out) (view z) (one x) (whole (drop (i + 1) all)) e
      ∙ ap (room_after_parts (map view out)) (sym (part_turn all i x h is))

  pub parts_stops : (out : List Z) (all : List X) (i : ℕ) (x : X) (answer : Option (List (List Fact))) → i < length all → x ≡ get_or all i x → room_after_parts (map view out) (whole (drop i all)) ≡ answer → one x ≡ None → answer ≡ None
  parts_stops out all i x answer h is inv e =
      sym inv ∙ ap (room_after_parts (map view out)) (part_turn all i x h is) ∙ parts_stop (map view out) (one x) (whole (drop (i + 1) all)) e

  pub parts_end : (out : List Z) (all : List X) (i : ℕ) (answer : Option (List (List Fact))) → length all ≤ i → room_after_parts (map view out) (whole (drop i all)) ≡ answer → answer ≡ Some (map view out)
  parts_end out all i answer h inv =
      sym inv ∙ ap (λ l. room_after_parts (map view out) (whole l)) (drop_of_length-le all h) ∙ ap (room_after_parts (map view out)) none_is ∙ ap Some (append-nil (map view out))
