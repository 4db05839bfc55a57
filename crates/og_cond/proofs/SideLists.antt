-- Interference over what matters of the processes is interference.
use Rattle.std.proofs.Common.{◌≡◌, ℕ, ◌≤◌, List, [], ◌∷◌, ◌++◌, map, true, if◌then◌else◌, ◌&&◌, ◌||◌, nat_lt, refl, sym, ap, ap₂, ◌∙◌, arith}
use Rattle.std.proofs.lemmas.List.{map-append}
use Rattle.std.specs.Prelude.{flat_map, filter_map}
use Rattle.std.specs.List.{cons_option}
use Rattle.std.proofs.lemmas.Bool.{lt-ltb}
use Rattle.std.proofs.lemmas.Grind.{flat_map-append}
use Rattle.og_typed.specs.Syntax.{Formula, Noted, Simple, Pass, Set, Statement, Skip, Assign, If, While, Await, Otherwise, Nothing, Else, Sequence, Last, Then}
use Rattle.og_typed.specs.Pieces.{Piece, pieces, pieces_of_stmt, pieces_of_else}
use Rattle.og_typed.specs.Occurs.{occurs, touches}
use Rattle.og_typed.specs.Rule.{IsUsableSimple, IsUsableSequence, IsUsableStatement, IsUsableOtherwise}
use Rattle.og_typed.proofs.Each.{Each, each_append}
use Rattle.og_cond.specs.Condition.{Condition}
use Rattle.og_cond.specs.Conditions.{Action, assigned, stmt_action, actions, notes, pair_condition, against, interference, interfere_condition}
use Rattle.og_cond.specs.Crossing.{Side, side_of, crosses, action_crossings, side_crossings, crossings}

-- ---- processes as sides

flat_sides : (f : Noted → List Condition) (ps : List Sequence) → flat_map f (flat_map notes ps) ≡ flat_map (λ side. flat_map f side.notes) (map side_of ps)
flat_sides f [] = refl
flat_sides f (p ∷ ps) = flat_map-append f (notes p) (flat_map notes ps) ∙ ap (λ l. flat_map f (notes p) ++ l) (flat_sides f ps)

against_sides : (n : ℕ) (p : Sequence) (ps : List Sequence) → against n p ps ≡ side_crossings touches n (actions p) (map side_of ps)
against_sides n p ps = λ i. flat_map (λ action. flat_sides (pair_condition n action) ps i) (actions p)

pub interference_sides : (n : ℕ) (earlier later : List Sequence) → interference n earlier later ≡ crossings touches n (map side_of earlier) (map side_of later)
interference_sides n earlier [] = refl
interference_sides n earlier (p ∷ later) =
    ap₂ ◌++◌
    (against_sides n p (earlier ++ later) ∙ ap (side_crossings touches n (actions p)) (map-append side_of earlier later))
    (interference_sides n (earlier ++ p ∷ []) later ∙ ap (λ l. crossings touches n l (map side_of later)) (map-append side_of earlier (p ∷ [])))

-- ---- variables below 256

module _ (m : ℕ) (small : m ≤ 256) where
  crosses_touches : (body : List Simple) (a : Formula) → Each (IsUsableSimple m) body → crosses body a ≡ touches body a
  crosses_touches [] a h = refl
  crosses_touches (Pass ∷ rest) a h = crosses_touches rest a h.1
  crosses_touches (Set x e ∷ rest) a h =
      let within : nat_lt x 256 ≡ true = lt-ltb x 256 (omega (arith, h.0.0, small)) in
      ap₂ ◌||◌ (ap (λ b. b && occurs x a) within) (crosses_touches rest a h.1)

  abbrev pub IsBelow : Action → Type 0
  IsBelow action = Each (IsUsableSimple m) (assigned action)

  abbrev IsUsablePiece : Piece → Type 0
  IsUsablePiece piece = IsUsableStatement m piece.stmt

  mutual
    usable_pieces : (q : Sequence) → IsUsableSequence m q → Each IsUsablePiece (pieces q)
    usable_pieces (Last note) h = tt
    usable_pieces (Then before stmt at rest) h =
        (h.1, each_append IsUsablePiece (pieces_of_stmt stmt) (pieces rest) (usable_inner stmt h.1) (usable_pieces rest h.2))

    usable_inner : (stmt : Statement) → IsUsableStatement m stmt → Each IsUsablePiece (pieces_of_stmt stmt)
    usable_inner Skip h = tt
    usable_inner (Assign x e) h = tt
    usable_inner (If b branch other) h =
        each_append IsUsablePiece (pieces branch) (pieces_of_else other) (usable_pieces branch h.1) (usable_other other h.2)
    usable_inner (While b body) h = usable_pieces body h.1
    usable_inner (Await b body) h = tt

    usable_other : (other : Otherwise) → IsUsableOtherwise m other → Each IsUsablePiece (pieces_of_else other)
    usable_other Nothing h = tt
    usable_other (Else branch) h = usable_pieces branch h

  one_below : (before : Formula) (at : ℕ) (stmt : Statement) (l : List Action) → IsUsableStatement m stmt → Each IsBelow l → Each IsBelow (cons_option (stmt_action before at stmt) l)
  one_below before at Skip l h k = k
  one_below before at (Assign x e) l h k = ((h, tt), k)
  one_below before at (If b branch other) l h k = k
  one_below before at (While b body) l h k = k
  one_below before at (Await b body) l h k = (h.1, k)

  pieces_below : (ps : List Piece) → Each IsUsablePiece ps → Each IsBelow (filter_map (λ piece. stmt_action piece.before.assertion piece.at piece.stmt) ps)
  pieces_below [] h = tt
  pieces_below (p ∷ ps) h = one_below p.before.assertion p.at p.stmt _ h.0 (pieces_below ps h.1)

  pub actions_below : (q : Sequence) → IsUsableSequence m q → Each IsBelow (actions q)
  actions_below q h = pieces_below (pieces q) (usable_pieces q h)

  -- ---- then both tests tell the same

  action_same : (n : ℕ) (action : Action) (others : List Side) → IsBelow action → action_crossings crosses n action others ≡ action_crossings touches n action others
  action_same n action others h =
      λ i. flat_map (λ side. flat_map (λ note. if crosses_touches (assigned action) note.assertion h i then interfere_condition n action note ∷ [] else []) side.notes) others

  side_same : (n : ℕ) (acts : List Action) (others : List Side) → Each IsBelow acts → side_crossings crosses n acts others ≡ side_crossings touches n acts others
  side_same n [] others h = refl
  side_same n (a ∷ acts) others h = ap₂ ◌++◌ (action_same n a others h.0) (side_same n acts others h.1)

  crossings_same : (n : ℕ) (earlier : List Side) (ps : List Sequence) → Each (IsUsableSequence m) ps → crossings crosses n earlier (map side_of ps) ≡ crossings touches n earlier (map side_of ps)
  crossings_same n earlier [] h = refl
  crossings_same n earlier (p ∷ ps) h =
      ap₂ ◌++◌ (side_same n (actions p) (earlier ++ map side_of ps) (actions_below p h.0)) (crossings_same n (earlier ++ side_of p ∷ []) ps h.1)

  -- what the code lists is interference
  pub interference_crossed : (n : ℕ) (ps : List Sequence) → Each (IsUsableSequence m) ps → crossings crosses n [] (map side_of ps) ≡ interference n [] ps
  interference_crossed n ps h = crossings_same n [] ps h ∙ sym (interference_sides n [] ps)
