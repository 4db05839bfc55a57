-- The counts are the lengths of the lists.
use Rattle.std.proofs.Common.{◌≡◌, ℕ, ◌+◌, List, [], ◌∷◌, ◌++◌, map, length, Bool, true, false, if◌then◌else◌, Option, Some, None, refl, sym, ap, ◌∙◌, arith, length-append, ◌≤◌, ◌||◌}
use Rattle.std.specs.Prelude.{flat_map, filter_map}
use Rattle.std.specs.List.{cons_option}
use Rattle.std.proofs.lemmas.List.{length-map, map-append}
use Rattle.std.proofs.lemmas.List.Elements.{filter_map-append}
use Rattle.og_typed.specs.Syntax.{Formula, Noted, Statement, Skip, Assign, If, While, Await, Otherwise, Nothing, Else, Sequence, Last, Then, Program, last_of}
use Rattle.og_typed.specs.Pieces.{Piece, pieces, pieces_of_stmt, pieces_of_else, first_of}
use Rattle.og_typed.specs.Rule.{IsUsableSequence, IsOutline}
use Rattle.og_typed.proofs.Each.{Each}
use Rattle.og_cond.specs.Condition.{Condition}
use Rattle.og_cond.specs.Conditions.{Action, assigned, stmt_action, actions, notes, interference, interfere_condition, seq_conditions, stmt_conditions, else_conditions, start_condition, prologue_conditions, epilogue_conditions, conditions}
use Rattle.og_cond.specs.Sets.{watches, assigns_some}
use Rattle.og_cond.specs.Crossing.{side_of, crosses, pair_if, pairs_of, action_crossings, side_crossings, crossings}
use Rattle.og_cond.specs.Counting.{seq_count, stmt_count, else_count, local_count, part_count, seq_hits, stmt_hits, else_hits, all_hits, note_count, seq_breaks, stmt_breaks, else_breaks, process_breaks, all_breaks, condition_count}
use Rattle.og_cond.proofs.Exchange.{total, total-append, out, by_rows, by_columns, exchange, swap, total-same, length-flat}
use Rattle.og_cond.proofs.SideLists.{interference_crossed}

-- ---- local conditions

module _ (n : ℕ) where
  mutual
    seq_length : (q : Sequence) → length (seq_conditions n q) ≡ seq_count q
    seq_length (Last note) = refl
    seq_length (Then before stmt at rest) =
        omega (arith, length-append (stmt_conditions n before.assertion at stmt (first_of rest).assertion) (seq_conditions n rest), stmt_length before.assertion at stmt (first_of rest).assertion, seq_length rest)

    stmt_length : (before : Formula) (at : ℕ) (stmt : Statement) (after : Formula) → length (stmt_conditions n before at stmt after) ≡ stmt_count stmt
    stmt_length before at Skip after = refl
    stmt_length before at (Assign x e) after = refl
    stmt_length before at (If b branch other) after = omega (arith, length-append {A = Condition}, seq_length branch, else_length before at b other after)
    stmt_length before at (While b body) after = omega (arith, length-append {A = Condition}, seq_length body)
    stmt_length before at (Await b body) after = refl

    else_length : (before : Formula) (at : ℕ) (b : Formula) (other : Otherwise) (after : Formula) → length (else_conditions n before at b other after) ≡ else_count other
    else_length before at b Nothing after = refl
    else_length before at b (Else branch) after = omega (arith, length-append {A = Condition}, seq_length branch)

  local_length : (ps : List Sequence) → length (flat_map (seq_conditions n) ps) ≡ local_count ps
  local_length [] = refl
  local_length (p ∷ ps) = omega (arith, length-append (seq_conditions n p) (flat_map (seq_conditions n) ps), seq_length p, local_length ps)

-- ---- the actions that may break one assertion

-- one where the action assigns a variable that passes the test
abbrev hit : (ℕ → Bool) → Action → ℕ
hit test action = if assigns_some test (assigned action) then 1 else 0

or_false : (b : Bool) → (b || false) ≡ b
or_false true = refl
or_false false = refl

module _ (test : ℕ → Bool) where
  abbrev piece_actions : List Piece → List Action
  piece_actions = filter_map (λ piece. stmt_action piece.before.assertion piece.at piece.stmt)

  abbrev piece_hits : List Piece → ℕ
  piece_hits ps = total (hit test) (piece_actions ps)

  piece_hits-append : (xs ys : List Piece) → piece_hits (xs ++ ys) ≡ piece_hits xs + piece_hits ys
  piece_hits-append xs ys =
      ap (total (hit test)) (filter_map-append (λ piece. stmt_action piece.before.assertion piece.at piece.stmt) xs ys) ∙ total-append (hit test) (piece_actions xs) (piece_actions ys)

  mutual
    seq_total : (q : Sequence) → piece_hits (pieces q) ≡ seq_hits test q
    seq_total (Last note) = refl
    seq_total (Then before stmt at rest) =
        omega (arith, stmt_total before.assertion at stmt (piece_actions (pieces_of_stmt stmt ++ pieces rest)), piece_hits-append (pieces_of_stmt stmt) (pieces rest), seq_total rest)

    stmt_total : (before : Formula) (at : ℕ) (stmt : Statement) (l : List Action) → total (hit test) (cons_option (stmt_action before at stmt) l) + piece_hits (pieces_of_stmt stmt) ≡ stmt_hits test stmt + total (hit test) l
    stmt_total before at Skip l = omega arith
    stmt_total before at (Assign x e) l = omega (arith, ap {B = ℕ} (λ b. if b then 1 else 0) (or_false (test x)))
    stmt_total before at (If b branch other) l = omega (arith, piece_hits-append (pieces branch) (pieces_of_else other), seq_total branch, else_total other)
    stmt_total before at (While b body) l = omega (arith, seq_total body)
    stmt_total before at (Await b body) l = omega arith

    else_total : (other : Otherwise) → piece_hits (pieces_of_else other) ≡ else_hits test other
    else_total Nothing = refl
    else_total (Else branch) = seq_total branch

  hits_total : (ps : List Sequence) → all_hits test ps ≡ total (seq_hits test) ps
  hits_total [] = refl
  hits_total (p ∷ ps) = omega (arith, hits_total ps)

-- ---- the assertions of one process

module _ (others : List Sequence) where
  abbrev piece_notes : List Piece → ℕ
  piece_notes ps = total (note_count others) (map (λ piece. piece.before) ps)

  piece_notes-append : (xs ys : List Piece) → piece_notes (xs ++ ys) ≡ piece_notes xs + piece_notes ys
  piece_notes-append xs ys =
      ap (total (note_count others)) (map-append (λ piece. piece.before) xs ys) ∙ total-append (note_count others) (map (λ piece. piece.before) xs) (map (λ piece. piece.before) ys)

  mutual
    seq_notes : (q : Sequence) → piece_notes (pieces q) ≡ seq_breaks others q
    seq_notes (Last note) = refl
    seq_notes (Then before stmt at rest) =
        omega (arith, piece_notes-append (pieces_of_stmt stmt) (pieces rest), stmt_notes stmt, seq_notes rest)

    stmt_notes : (stmt : Statement) → piece_notes (pieces_of_stmt stmt) ≡ stmt_breaks others stmt
    stmt_notes Skip = refl
    stmt_notes (Assign x e) = refl
    stmt_notes (If b branch other) = omega (arith, piece_notes-append (pieces branch) (pieces_of_else other), seq_notes branch, else_notes other)
    stmt_notes (While b body) = seq_notes body
    stmt_notes (Await b body) = refl

    else_notes : (other : Otherwise) → piece_notes (pieces_of_else other) ≡ else_breaks others other
    else_notes Nothing = refl
    else_notes (Else branch) = seq_notes branch

  notes_total : (q : Sequence) → total (note_count others) (notes q) ≡ process_breaks others q
  notes_total q =
      omega (arith, total-append (note_count others) (map (λ piece. piece.before) (pieces q)) (last_of q ∷ []), seq_notes q)

-- ---- pairs of processes

-- how often an action of p may break an assertion of q
abbrev weight : Sequence → Sequence → ℕ
weight p q = total (λ note. seq_hits (watches note.assertion) p) (notes q)

columns : (earlier later : List Sequence) → all_breaks earlier later ≡ by_columns weight earlier later
columns earlier [] = refl
columns earlier (q ∷ later) =
    let others = earlier ++ later in
    let counted : total (note_count others) (notes q) ≡ total (λ note. total (seq_hits (watches note.assertion)) others) (notes q) = total-same _ _ (notes q) (λ note. hits_total (watches note.assertion) others) in
    let turned = swap (λ p note. seq_hits (watches note.assertion) p) others (notes q) in
    omega (arith, notes_total others q, counted, turned, columns (earlier ++ q ∷ []) later)

module _ (n : ℕ) where
  length_if : (b : Bool) (c : Condition) → length (if b then c ∷ [] else []) ≡ (if b then 1 else 0)
  length_if true c = refl
  length_if false c = refl

  pairs_length : (action : Action) (ns : List Noted) → length (pairs_of crosses n action ns) ≡ total (λ note. hit (watches note.assertion) action) ns
  pairs_length action ns =
      length-flat (pair_if crosses n action) ns ∙ total-same _ _ ns (λ note. length_if (crosses (assigned action) note.assertion) (interfere_condition n action note))

  -- of these actions against one process
  row_length : (p q : Sequence) → total (λ action. length (pairs_of crosses n action (notes q))) (actions p) ≡ weight p q
  row_length p q =
      total-same _ _ (actions p) (λ action. pairs_length action (notes q))
      ∙ swap (λ action note. hit (watches note.assertion) action) (actions p) (notes q)
      ∙ total-same _ _ (notes q) (λ note. seq_total (watches note.assertion) p)

  action_length : (action : Action) (others : List Sequence) → length (action_crossings crosses n action (map side_of others)) ≡ total (λ q. length (pairs_of crosses n action (notes q))) others
  action_length action [] = refl
  action_length action (q ∷ others) =
      omega (arith, length-append (pairs_of crosses n action (notes q)) (action_crossings crosses n action (map side_of others)), action_length action others)

  side_length : (p : Sequence) (others : List Sequence) → length (side_crossings crosses n (actions p) (map side_of others)) ≡ out weight p others
  side_length p others =
      length-flat (λ action. action_crossings crosses n action (map side_of others)) (actions p)
      ∙ total-same _ _ (actions p) (λ action. action_length action others)
      ∙ swap (λ action q. length (pairs_of crosses n action (notes q))) (actions p) others
      ∙ total-same _ _ others (row_length p)

  rows : (earlier later : List Sequence) → length (crossings crosses n (map side_of earlier) (map side_of later)) ≡ by_rows weight earlier later
  rows earlier [] = refl
  rows earlier (p ∷ later) =
      let here = ap (λ l. length (side_crossings crosses n (actions p) l)) (sym (map-append side_of earlier later)) ∙ side_length p (earlier ++ later) in
      let more = ap (λ l. length (crossings crosses n l (map side_of later))) (sym (map-append side_of earlier (p ∷ []))) ∙ rows (earlier ++ p ∷ []) later in
      omega (arith, length-append (side_crossings crosses n (actions p) (map side_of earlier ++ map side_of later)) (crossings crosses n (map side_of earlier ++ side_of p ∷ []) (map side_of later)), here, more)

  interference_length : (m : ℕ) (ps : List Sequence) → m ≤ 256 → Each (IsUsableSequence m) ps → length (interference n [] ps) ≡ all_breaks [] ps
  interference_length m ps small h =
      ap length (sym (interference_crossed m small n ps h)) ∙ rows [] ps ∙ exchange weight ps ∙ sym (columns [] ps)

-- ---- all of them

prologue_length : (o : Program) (part : Option Sequence) → length (prologue_conditions o part) ≡ part_count part
prologue_length o None = refl
prologue_length o (Some part) = omega (arith, seq_length (length o.names) part)

epilogue_length : (o : Program) (part : Option Sequence) → length (epilogue_conditions o part) ≡ part_count part
epilogue_length o None = refl
epilogue_length o (Some part) = omega (arith, length-append {A = Condition}, seq_length (length o.names) part)

pub conditions_length : (o : Program) → IsOutline o → length (conditions o) ≡ condition_count o
conditions_length o h =
    let n = length o.names in
    omega (arith, length-append {A = Condition}, length-map o.processes (start_condition o), prologue_length o o.prologue, local_length n o.processes, interference_length n n o.processes h.few h.usable, epilogue_length o o.epilogue)
