-- What is true of every moment that is reached, whatever the assertions say: its parts, and the rule for its statements.
use Rattle.std.proofs.Common.{◌≡◌, ℕ, zero, suc, ◌<◌, ◌≤◌, ◌+◌, ℤ, List, [], ◌∷◌, ◌++◌, map, set, length, Bool, true, false, ◌||◌, if◌then◌else◌, is_some, Some, None, Option, IfSome, slice_get, unwrap_or, option_map, refl, sym, ap, ◌∙◌, subst, arith, length-set, length-append}
use Rattle.std.proofs.lemmas.Bool.{and_from, both_ways, or_left, or_right, lt-ltb, eq-eqb, true_from_ne_false}
use Rattle.std.proofs.lemmas.Option.{same_Some, none-some}
use Rattle.std.proofs.lemmas.List.{length-map}
use Rattle.og_typed.specs.Syntax.{Formula, Simple, Set, Statement, Skip, Assign, If, While, Await, Otherwise, Nothing, Else, Sequence, Last, Then, Program, Rest, items, part_items, else_items}
use Rattle.og_typed.specs.Pieces.{Piece, pieces, pieces_of_stmt, pieces_of_else}
use Rattle.og_typed.specs.Truth.{truth}
use Rattle.og_typed.specs.Machine.{act, all_fit, attempt, advance, advance_rest, rest_overflows, Moment, Phase, Before, During, After, phase, with_rest, with_prologue, with_epilogue, rest_of, is_empty, is_last, next_in, next, run_on, start_state, start_of, IsReached, is_main, active, active_in, todo}
use Rattle.og_typed.specs.Rule.{StatementFollows, SequenceFollows, IsOutline}
use Rattle.og_typed.proofs.Each.{Each, each_left, each_right, each_append}
use Rattle.og_typed.proofs.Growth.{run_long}
use Rattle.og_theorem.specs.Sound.{IsSound}
use Rattle.og_theorem.proofs.Invariant.{is_nothing, opened, ended, process_of}
use Rattle.og_theorem.proofs.Sound.{Any, todo_main, todo_process, main_before, main_after}
use Rattle.og_theorem.proofs.Projections.{IsFit}

each_set : {X : Type 0} (P : X → Type 0) (xs : List X) (i : ℕ) (x : X) → Each P xs → P x → Each P (set xs i x)
each_set P [] i x h k = tt
each_set P (y ∷ xs) zero x h k = (k, h.1)
each_set P (y ∷ xs) (suc i) x h k = (h.0, each_set P xs i x h.1 k)

-- ---- rests whose statements follow the rule, at every depth

module _ (n : ℕ) where
  abbrev PieceFollows : Piece → Type 0
  PieceFollows piece = StatementFollows n piece.stmt

  abbrev pub HeadFollows : Formula × Statement → Type 0
  HeadFollows head = StatementFollows n head.1 × Each PieceFollows (pieces_of_stmt head.1)

  abbrev pub RestFollows : Rest → Type 0
  RestFollows = Each HeadFollows

  items_follow : (q : Sequence) → SequenceFollows n q → RestFollows (items q)
  items_follow (Last note) h = tt
  items_follow (Then before stmt at rest) h = (
    (h.0, each_left PieceFollows (pieces_of_stmt stmt) (pieces rest) h.1),
    items_follow rest (each_right PieceFollows (pieces_of_stmt stmt) (pieces rest) h.1),
  )

  else_follows : (q : Otherwise) → Each PieceFollows (pieces_of_else q) → RestFollows (else_items q)
  else_follows Nothing h = tt
  else_follows (Else branch) h = items_follow branch h

  part_follows : (part : Option Sequence) → IfSome part (SequenceFollows n) → RestFollows (part_items part)
  part_follows None h = tt
  part_follows (Some part) h = items_follow part h

  all_follow : (ps : List Sequence) → Each (SequenceFollows n) ps → Each RestFollows (map items ps)
  all_follow [] h = tt
  all_follow (p ∷ ps) h = (items_follow p h.0, all_follow ps h.1)

  abbrev Leads : Option (List ℤ × Rest) → Type 0
  Leads a = IfSome a (λ after. RestFollows after.1)

  attempt_follows : (body : List Simple) (s : List ℤ) (rest : Rest) → RestFollows rest → Leads (attempt body s rest)
  attempt_follows body s rest h = go (all_fit body s)
    where
      go : (b : Bool) → Leads (if b then Some (act body s, rest) else None)
      go true = h
      go false = tt

  advance_follows : (s : List ℤ) (before : Formula) (stmt : Statement) (rest : Rest) → HeadFollows (before, stmt) → RestFollows rest → Leads (advance s before stmt rest)
  advance_follows s before Skip rest h k = k
  advance_follows s before (Assign x e) rest h k = attempt_follows (Set x e ∷ []) s rest k
  advance_follows s before (If b branch other) rest h k = each_append HeadFollows (if truth b s then items branch else else_items other) rest (go (truth b s)) k
    where
      go : (t : Bool) → RestFollows (if t then items branch else else_items other)
      go true = items_follow branch (each_left PieceFollows (pieces branch) (pieces_of_else other) h.1)
      go false = else_follows other (each_right PieceFollows (pieces branch) (pieces_of_else other) h.1)
  advance_follows s before (While b body) rest h k = go (truth b s)
    where
      go : (t : Bool) → RestFollows (if t then items body ++ (before, While b body) ∷ rest else rest)
      go true = each_append HeadFollows (items body) ((before, While b body) ∷ rest) (items_follow body h.1) (h, k)
      go false = k
  advance_follows s before (Await b body) rest h k = go (truth b s)
    where
      go : (t : Bool) → Leads (if t then attempt body s rest else None)
      go true = attempt_follows body s rest k
      go false = tt

  rest_follows : (s : List ℤ) (rest : Rest) → RestFollows rest → Leads (advance_rest s rest)
  rest_follows s [] h = tt
  rest_follows s (head ∷ rest) h = advance_follows s head.0 head.1 rest h.0 h.1

  at_follows : (rests : List Rest) (p : ℕ) → Each RestFollows rests → RestFollows (unwrap_or (slice_get rests p) [])
  at_follows [] p h = tt
  at_follows (rest ∷ rests) zero h = h.0
  at_follows (rest ∷ rests) (suc p) h = at_follows rests p h.1

  fit_from : (s : List ℤ) (rest : Rest) → RestFollows rest → rest_overflows s rest ≡ false → n ≤ length s → IsFit n s rest
  fit_from s [] h over long = (tt, over, long)
  fit_from s (head ∷ rest) h over long = (h.0.0, over, long)

-- ---- moments

pub record HasShape (o : Program) (m : Moment) : Type 0 where
  pub count : length m.rests ≡ length o.processes
  pub opening : RestFollows o.vars m.prologue
  pub between : Each (RestFollows o.vars) m.rests
  pub closing : RestFollows o.vars m.epilogue
  pub no_prologue : is_some o.prologue ≡ false → is_empty m.prologue ≡ true
  pub no_epilogue : is_some o.epilogue ≡ false → is_empty m.epilogue ≡ true

absent : (part : Option Sequence) → is_some part ≡ false → is_empty (part_items part) ≡ true
absent None e = refl
absent (Some part) e = absurd (both_ways true e refl)

module _ (o : Program) (rule : IsOutline o) where
  start_shape : (values : List ℤ) → HasShape o (start_of o values)
  start_shape values = record {
    count = length-map o.processes items;
    opening = part_follows o.vars o.prologue rule.prologue_follows;
    between = all_follow o.vars o.processes rule.follows;
    closing = part_follows o.vars o.epilogue rule.epilogue_follows;
    no_prologue = absent o.prologue;
    no_epilogue = absent o.epilogue;
  }

  put_shape : (put : List ℤ × Rest → Moment) (a : Option (List ℤ × Rest)) → Leads o.vars a → ((after : List ℤ × Rest) → RestFollows o.vars after.1 → HasShape o (put after)) → (b : Bool) → IfSome (if b then option_map put a else None) (HasShape o)
  put_shape put None h f true = tt
  put_shape put (Some after) h f true = f after h
  put_shape put a h f false = tt

  next_shape : (m : Moment) (p : ℕ) → HasShape o m → IfSome (next m p) (HasShape o)
  next_shape m p h = go (phase m) refl
    where
      prologue_left : is_empty m.prologue ≡ false → (after : List ℤ × Rest) → RestFollows o.vars after.1 → HasShape o (with_prologue m after)
      prologue_left full after k = record {
        count = h.count;
        opening = k;
        between = h.between;
        closing = h.closing;
        no_prologue = λ none. absurd (both_ways (is_empty m.prologue) full (h.no_prologue none));
        no_epilogue = h.no_epilogue;
      }

      epilogue_left : is_empty m.epilogue ≡ false → (after : List ℤ × Rest) → RestFollows o.vars after.1 → HasShape o (with_epilogue m after)
      epilogue_left full after k = record {
        count = h.count;
        opening = h.opening;
        between = h.between;
        closing = k;
        no_prologue = h.no_prologue;
        no_epilogue = λ none. absurd (both_ways (is_empty m.epilogue) full (h.no_epilogue none));
      }

      between : (after : List ℤ × Rest) → RestFollows o.vars after.1 → HasShape o (with_rest m p after)
      between after k = record {
        count = length-set m.rests p after.1 ∙ h.count;
        opening = h.opening;
        between = each_set (RestFollows o.vars) m.rests p after.1 h.between k;
        closing = h.closing;
        no_prologue = h.no_prologue;
        no_epilogue = h.no_epilogue;
      }

      -- a rest that has a step isn't empty
      main : (put : List ℤ × Rest → Moment) (rest : Rest) → RestFollows o.vars rest → (is_empty rest ≡ false → (after : List ℤ × Rest) → RestFollows o.vars after.1 → HasShape o (put after)) → (b : Bool) → IfSome (if b then option_map put (advance_rest m.state rest) else None) (HasShape o)
      main put [] k f true = tt
      main put [] k f false = tt
      main put (head ∷ rest) k f b = put_shape put (advance_rest m.state (head ∷ rest)) (rest_follows o.vars m.state (head ∷ rest) k) (f refl) b

      go : (f : Phase) → phase m ≡ f → IfSome (next_in f m p) (HasShape o)
      go Before e = main (with_prologue m) m.prologue h.opening prologue_left (is_last m p)
      go During e = put_shape (with_rest m p) (advance_rest m.state (rest_of m p)) (rest_follows o.vars m.state (rest_of m p) (at_follows o.vars m.rests p h.between)) between true
      go After e = main (with_epilogue m) m.epilogue h.closing epilogue_left (is_last m p)

  run_shape : (run : List ℕ) (m last : Moment) → HasShape o m → run_on run (Some m) ≡ Some last → HasShape o last
  run_shape [] m last h e = subst (HasShape o) (same_Some m last e) h
  run_shape (p ∷ run) m last h e = go (next m p) (next_shape m p h) e (λ n. run_shape run n last)
    where
      go : (a : Option Moment) → IfSome a (HasShape o) → run_on run a ≡ Some last → ((n : Moment) → HasShape o n → run_on run (Some n) ≡ Some last → HasShape o last) → HasShape o last
      go None k f rec = absurd (none-some last f)
      go (Some n) k f rec = rec n k f

  pub shape : (m : Moment) → IsReached o m → HasShape o m
  shape m r = run_shape r.1 (start_of o r.0) m (start_shape r.0) r.3

  -- a value for each variable that isn't auxiliary
  pub long : (m : Moment) → IsReached o m → o.vars ≤ length m.state
  long m r =
      let start : length (start_state o r.0) ≡ length r.0 + length o.aux_values = length-append r.0 o.aux_values in
      let count = r.2.0 in
      let more = run_long r.1 (start_of o r.0) m r.3 in
      omega (arith, start, count, more)

  -- ---- where the outline is sound, no statement that comes next overflows

  module _ (sound : IsSound o) where
    abbrev last : ℕ
    last = length o.processes

    main_is : (is_some o.prologue || is_some o.epilogue) ≡ true → is_main o last ≡ true
    main_is some = and_from _ _ some (eq-eqb last last refl)

    pub prologue_fit : (m : Moment) → IsReached o m → phase m ≡ Before → IsFit o.vars m.state m.prologue
    prologue_fit m r e =
        let h = shape m r in
        let full = opened m e in
        let some : is_some o.prologue ≡ true = true_from_ne_false (is_some o.prologue) (λ none. both_ways (is_empty m.prologue) full (h.no_prologue none)) in
        let live : active o m last ≡ true = ap (λ f. active_in f o last) e ∙ main_is (or_left _ _ some) in
        let todo_is : todo m last ≡ m.prologue = todo_main m last h.count ∙ main_before m full in
        fit_from o.vars m.state m.prologue h.opening (ap (rest_overflows m.state) (sym todo_is) ∙ sound.never_overflows m r last live) (long m r)

    pub epilogue_fit : (m : Moment) → IsReached o m → phase m ≡ After → IsFit o.vars m.state m.epilogue
    epilogue_fit m r e = go (is_some o.epilogue) refl
      where
        h : HasShape o m
        h = shape m r

        todo_is : todo m last ≡ m.epilogue
        todo_is = todo_main m last h.count ∙ main_after m (ended m e).0

        go : (b : Bool) → is_some o.epilogue ≡ b → IsFit o.vars m.state m.epilogue
        go true some =
            let live : active o m last ≡ true = ap (λ f. active_in f o last) e ∙ or_left _ _ (main_is (or_right _ _ some)) in
            fit_from o.vars m.state m.epilogue h.closing (ap (rest_overflows m.state) (sym todo_is) ∙ sound.never_overflows m r last live) (long m r)
        go false none =
            fit_from o.vars m.state m.epilogue h.closing (ap (rest_overflows m.state) (is_nothing m.epilogue (h.no_epilogue none))) (long m r)

    pub rest_fit : (m : Moment) → IsReached o m → phase m ≡ During → (p : ℕ) → IsFit o.vars m.state (rest_of m p)
    rest_fit m r e p = fit_from o.vars m.state (rest_of m p) (at_follows o.vars m.rests p h.between) (go (rest_of m p) refl) (long m r)
      where
        h : HasShape o m
        h = shape m r

        go : (rest : Rest) → rest_of m p ≡ rest → rest_overflows m.state (rest_of m p) ≡ false
        go [] f = ap (rest_overflows m.state) f
        go (head ∷ rest) f =
            let within = (process_of Any o.processes m p head rest h.count f).2 in
            let live : active o m p ≡ true = ap (λ f. active_in f o p) e ∙ lt-ltb p last (subst (λ n. p < n) h.count within) in
            ap (rest_overflows m.state) (sym (todo_process m p within)) ∙ sound.never_overflows m r p live
