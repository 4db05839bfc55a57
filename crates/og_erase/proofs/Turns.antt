-- The loops over a list of which some elements stay.
use Rattle.std.proofs.Common.{◌≡◌, ℕ, suc, ◌+◌, ◌<◌, ◌≤◌, List, [], ◌∷◌, ◌++◌, map, length, drop, get_or, Bool, true, false, if◌then◌else◌, refl, sym, ap, ◌∙◌, append_assoc, drop-cons, add-one, drop_of_length-le}
use Rattle.std.proofs.lemmas.List.{map_push, append-nil}
use Rattle.og_typed.specs.Syntax.{Noted, Statement, Then}
use Rattle.og_typed.specs.Lists.{sequence_list}
use Rattle.og_typed.specs.Erase.{is_aux_assign, blank, erase_seq, erase_stmt}

pub drop_at : {X : Type 0} (all : List X) (i : ℕ) (x : X) → i < length all → x ≡ get_or all i x → drop i all ≡ x ∷ drop (i + 1) all
drop_at all i x h is =
    drop-cons all i x h ∙ ap (λ y. y ∷ drop (suc i) all) (sym is) ∙ ap (λ k. x ∷ drop k all) (sym (add-one i))

-- ---- the items made of a list, where `rest` is made of the part still to be read

module _ {X Y Z : Type 0} (view : Z → Y) (rest : List X → List Y) where
  -- an element that stays
  pub stays : (out new : List Z) (made : Z) (all : List X) (i : ℕ) (x : X) → i < length all → x ≡ get_or all i x → new ≡ out ++ made ∷ [] → ((others : List X) → rest (x ∷ others) ≡ view made ∷ rest others) → map view new ++ rest (drop (i + 1) all) ≡ map view out ++ rest (drop i all)
  stays out new made all i x h is pushed step =
      let others = drop (i + 1) all in
      ap (λ l. l ++ rest others) (ap (map view) pushed ∙ map_push view out made)
      ∙ append_assoc (map view out) (view made ∷ []) (rest others)
      ∙ ap (λ l. map view out ++ l) (sym (step others))
      ∙ ap (λ l. map view out ++ rest l) (sym (drop_at all i x h is))

  -- an element that goes
  pub goes : (out : List Z) (all : List X) (i : ℕ) (x : X) → i < length all → x ≡ get_or all i x → ((others : List X) → rest (x ∷ others) ≡ rest others) → map view out ++ rest (drop (i + 1) all) ≡ map view out ++ rest (drop i all)
  goes out all i x h is step =
      ap (λ l. map view out ++ l) (sym (step (drop (i + 1) all)))
      ∙ ap (λ l. map view out ++ rest l) (sym (drop_at all i x h is))

  -- nothing is left to read
  pub finished : (out : List Z) (all : List X) (i : ℕ) (total : List Y) → length all ≤ i → rest [] ≡ [] → map view out ++ rest (drop i all) ≡ total → map view out ≡ total
  finished out all i total h none inv =
      sym (append-nil (map view out))
      ∙ ap (λ l. map view out ++ l) (sym none)
      ∙ ap (λ l. map view out ++ rest l) (sym (drop_of_length-le all h))
      ∙ inv

-- ---- a test that is known

pub if_true : {X : Type 0} (b : Bool) (x y : X) → b ≡ true → (if b then x else y) ≡ x
if_true true x y e = refl
if_true false x y e = absurd cc

pub if_false : {X : Type 0} (b : Bool) (x y : X) → b ≡ false → (if b then x else y) ≡ y
if_false true x y e = absurd cc
if_false false x y e = refl

-- ---- the items of a sequence

abbrev pub erased_items : ℕ → List (Noted × Statement × ℕ) → List (Noted × Statement × ℕ)
erased_items n [] = []
erased_items n (item ∷ items) =
    if is_aux_assign n item.1 then erased_items n items else (blank item.0, erase_stmt n item.1, item.2) ∷ erased_items n items

pub erase_list : (n : ℕ) (items : List (Noted × Statement × ℕ)) (last : Noted) → erase_seq n (sequence_list items last) ≡ sequence_list (erased_items n items) (blank last)
erase_list n [] last = refl
erase_list n (item ∷ items) last = go (is_aux_assign n item.1) (erase_list n items last)
  where
    go : (b : Bool) → erase_seq n (sequence_list items last) ≡ sequence_list (erased_items n items) (blank last)
        → (if b then erase_seq n (sequence_list items last) else Then (blank item.0) (erase_stmt n item.1) item.2 (erase_seq n (sequence_list items last))) ≡ sequence_list (if b then erased_items n items else (blank item.0, erase_stmt n item.1, item.2) ∷ erased_items n items) (blank last)
    go true ih = ih
    go false ih = ap (Then (blank item.0) (erase_stmt n item.1) item.2) ih
