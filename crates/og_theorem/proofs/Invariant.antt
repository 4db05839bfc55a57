-- What holds at every moment that a run reaches.
use Rattle.std.proofs.Common.{◌≡◌, ◌≢◌, ℕ, ℤ, pos, ◌<◌, ◌+◌, zero, suc, List, [], ◌∷◌, ◌++◌, map, flat_map, length, set, get_or, Bool, true, false, if◌then◌else◌, Option, Some, None, IfSome, is_some, slice_get, unwrap_or, option_map, refl, sym, ap, ◌∙◌, subst, inl, inr, ⊎_elim, append_assoc, arith, length-set, get_or-set_same, get_or-set_other, length-append, append-nil}
use Rattle.std.proofs.Math.Seq.{get_or-append_seam}
use Rattle.std.proofs.lemmas.List.{length-map}
use Rattle.std.proofs.lemmas.Bool.Decides.{Decides-int_eq}
use Rattle.std.proofs.lemmas.Bool.{and_from, and_parts, cases_eq, both_ways}
use Rattle.std.proofs.lemmas.Option.{none-some, same_Some, slice_get-map, unwrap_or-slice_get, slice_get_cases}
use Rattle.og_typed.specs.Syntax.{Formula, True, Noted, Statement, Sequence, Program, Rest, items, part_items, last_of}
use Rattle.og_typed.specs.Pieces.{first_of, Piece, pieces}
use Rattle.og_linear.specs.Linear.{IsProper}
use Rattle.og_typed.specs.Truth.{truth}
use Rattle.og_typed.specs.Machine.{act, advance, advance_rest, Moment, with_rest, with_prologue, with_epilogue, rest_of, is_empty, all_empty, Phase, Before, During, After, phase, phase_by, is_last, next_in, next, run_on, start_state, IsStart, start_of, head_or}
use Rattle.og_typed.specs.Occurs.{touches}
use Rattle.og_cond.specs.Valid.{IsValid, AreValid, hypotheses_true}
use Rattle.og_cond.specs.Conditions.{Action, assigned, stmt_action, actions, notes, blocked, stmt_blocked, interfere_condition, pair_condition, against, interference, seq_conditions, start_condition, starts, prologue_conditions, start_hypotheses, end_note, end_condition, last_hypotheses, epilogue_conditions}
use Rattle.og_typed.proofs.Each.{Each, Among, each_from_at, each_left, each_right, each_flat, each_of_map, each_of_filter_map, each_weaker, each_at, each_among, among_left, among_last, among_map, each_is_among, each_both, each_for_all, each_map, rest_but, among_others}
use Rattle.og_typed.proofs.Frame.{untouched}
use Rattle.og_theorem.specs.Proved.{IsSafe}
use Rattle.og_theorem.proofs.Chain.{Gives, gives_itself, IsKnown, Chain, head_append, chain_append, seq_chain, seq_first}
use Rattle.og_theorem.proofs.Steps.{Effect, IsReady, IsGood, advance_good, rest_good}

-- ---- interference

-- the action leaves the assertion true
abbrev pub IsKept : Action → Formula → Type 0
IsKept action a = (s : List ℤ) → IsProper s → hypotheses_true s action.hypotheses ≡ true → truth a s ≡ true → truth a (act (assigned action) s) ≡ true

pair_kept : (n : ℕ) (action : Action) (note : Noted) → AreValid (pair_condition n action note) → IsKept action note.assertion
pair_kept n action note valid s proper hs h = go (touches (assigned action) note.assertion) refl valid
  where
    go : (t : Bool) → touches (assigned action) note.assertion ≡ t → AreValid (if t then interfere_condition n action note ∷ [] else []) → truth note.assertion (act (assigned action) s) ≡ true
    go true e v = v.0 s proper (and_from _ _ h hs)
    go false e v = untouched (assigned action) note.assertion s e ∙ h

interference_at : (n : ℕ) (earlier later : List Sequence) (i : ℕ) (p : Sequence) → AreValid (interference n earlier later) → slice_get later i ≡ Some p → AreValid (against n p (earlier ++ rest_but i later))
interference_at n earlier [] i p v e = absurd (none-some p e)
interference_at n earlier (q ∷ later) zero p v e =
    subst (λ r. AreValid (against n r (earlier ++ later))) (same_Some q p e) (each_left IsValid (against n q (earlier ++ later)) _ v)
interference_at n earlier (q ∷ later) (suc i) p v e =
    subst (λ others. AreValid (against n p others)) (append_assoc earlier (q ∷ []) (rest_but i later))
    (interference_at n (earlier ++ q ∷ []) later i p (each_right IsValid (against n q (earlier ++ later)) _ v) e)

against_kept : (n : ℕ) (p : Sequence) (others : List Sequence) (q : Sequence) → AreValid (against n p others) → Among q others → Each (λ action. Each (λ note. IsKept action note.assertion) (notes q)) (actions p)
against_kept n p others q v k =
    each_weaker (λ action. AreValid (flat_map (pair_condition n action) (flat_map notes others))) (λ action. Each (λ note. IsKept action note.assertion) (notes q))
    (λ action w. each_among (λ r. Each (λ note. IsKept action note.assertion) (notes r)) others q
    (each_flat (λ note. IsKept action note.assertion) notes others
    (each_weaker (λ note. AreValid (pair_condition n action note)) (λ note. IsKept action note.assertion) (pair_kept n action) (flat_map notes others)
    (each_flat IsValid (pair_condition n action) (flat_map notes others) w))) k)
    (actions p)
    (each_flat IsValid (λ action. flat_map (pair_condition n action) (flat_map notes others)) (actions p) v)

-- ---- the facts known of each process

abbrev pub texts : Sequence → List Formula
texts p = map (λ note. note.assertion) (notes p)

abbrev pub IsNote : Sequence → Formula → Type 0
IsNote p a = Among a (texts p)

-- another process than the i-th
abbrev pub Other : List Sequence → ℕ → Type 0
Other ps i = (j : ℕ) × (q : Sequence) × (j ≢ i) × (slice_get ps j ≡ Some q)

abbrev pub IsAction : List Sequence → ℕ → Action → Type 0
IsAction ps i action = (other : Other ps i) → Each (λ note. IsKept action note.assertion) (notes other.1)

piece_is_note : (p : Sequence) (piece : Piece) → Among piece (pieces p) → IsNote p piece.before.assertion
piece_is_note p piece k =
    among_map (λ note. note.assertion) piece.before (notes p)
    (among_left piece.before (map (λ piece. piece.before) (pieces p)) (last_of p ∷ []) (among_map (λ piece. piece.before) piece (pieces p) k))

last_is_note : (p : Sequence) → IsNote p (last_of p).assertion
last_is_note p =
    among_map (λ note. note.assertion) (last_of p) (notes p) (among_last (last_of p) (map (λ piece. piece.before) (pieces p)))

piece_is_blocked : (p : Sequence) → Each (λ piece. IfSome (stmt_blocked piece.before.assertion piece.stmt) (λ parts. Among parts (blocked p))) (pieces p)
piece_is_blocked p =
    each_of_filter_map (λ parts. Among parts (blocked p)) (λ piece. stmt_blocked piece.before.assertion piece.stmt) (pieces p) (each_is_among (blocked p))

-- of a statement of process p and the assertion before it; R says what else is known of each statement
abbrev pub IsHead : (Statement → Type 0) → Sequence → Formula → Statement → Type 0
IsHead R p a stmt = IsNote p a × IfSome (stmt_blocked a stmt) (λ parts. Among parts (blocked p)) × R stmt

abbrev pub Meets : (Statement → Type 0) → Sequence → Type 0
Meets R p = Each (λ piece. R piece.stmt) (pieces p)

abbrev pub AllMeet : (Statement → Type 0) → Program → Type 0
AllMeet R o = IfSome o.prologue (Meets R) × Each (Meets R) o.processes × IfSome o.epilogue (Meets R)

all_known : (R : Statement → Type 0) (n : ℕ) (ps : List Sequence) (i : ℕ) (p : Sequence) → AreValid (interference n [] ps) → slice_get ps i ≡ Some p → Each (λ piece. R piece.stmt) (pieces p) → Each (IsKnown (IsHead R p) (IsAction ps i)) (pieces p)
all_known R n ps i p v e meets =
    let noted : Each (λ piece. IsNote p piece.before.assertion) (pieces p) =
    each_weaker (λ piece. Among piece (pieces p)) (λ piece. IsNote p piece.before.assertion) (piece_is_note p) (pieces p) (each_is_among (pieces p)) in
    let acts : Each (λ piece. IfSome (stmt_action piece.before.assertion piece.at piece.stmt) (IsAction ps i)) (pieces p) =
    each_of_filter_map (IsAction ps i) (λ piece. stmt_action piece.before.assertion piece.at piece.stmt) (pieces p)
    (each_for_all (λ other action. Each (λ note. IsKept action note.assertion) (notes other.1)) (actions p)
    (λ other. against_kept n p (rest_but i ps) other.1 (interference_at n [] ps i p v e) (among_others ps i other.0 other.1 other.2 other.3))) in
    each_weaker _ (IsKnown (IsHead R p) (IsAction ps i)) (λ piece h. ((h.0.0, h.0.1.0, h.0.1.1), h.1)) (pieces p)
    (each_both _ _ (pieces p) (each_both _ _ (pieces p) noted (each_both _ _ (pieces p) (piece_is_blocked p) meets)) acts)

-- ---- rests that are empty

pub is_nothing : (rest : Rest) → is_empty rest ≡ true → rest ≡ []
is_nothing [] e = refl
is_nothing (head ∷ rest) e = absurd (grind arith)

pub nothing_left : (rests : List Rest) (p : ℕ) → all_empty rests ≡ true → unwrap_or (slice_get rests p) [] ≡ []
nothing_left [] p e = refl
nothing_left (rest ∷ rests) zero e = is_nothing rest (and_parts _ _ e).0
nothing_left (rest ∷ rests) (suc p) e = nothing_left rests p (and_parts _ _ e).1

-- what the phase says
pub opened : (m : Moment) → phase m ≡ Before → is_empty m.prologue ≡ false
opened m e = go (is_empty m.prologue) (all_empty m.rests) e
  where
    go : (a b : Bool) → phase_by a b ≡ Before → a ≡ false
    go false b f = refl
    go true false f = absurd (grind arith)
    go true true f = absurd (grind arith)

pub under_way : (m : Moment) → phase m ≡ During → (is_empty m.prologue ≡ true) × (all_empty m.rests ≡ false)
under_way m e = go (is_empty m.prologue) (all_empty m.rests) e
  where
    go : (a b : Bool) → phase_by a b ≡ During → (a ≡ true) × (b ≡ false)
    go false b f = absurd (grind arith)
    go true false f = (refl, refl)
    go true true f = absurd (grind arith)

pub ended : (m : Moment) → phase m ≡ After → (is_empty m.prologue ≡ true) × (all_empty m.rests ≡ true)
ended m e = go (is_empty m.prologue) (all_empty m.rests) e
  where
    go : (a b : Bool) → phase_by a b ≡ After → (a ≡ true) × (b ≡ true)
    go false b f = absurd (grind arith)
    go true false f = absurd (grind arith)
    go true true f = (refl, refl)

any_action : (a : Option Action) → IfSome a (λ action. Unit {0})
any_action None = tt
any_action (Some action) = tt

last_hypotheses_true : (s : List ℤ) (processes : List Sequence) → Each (λ p. truth (last_of p).assertion s ≡ true) processes → hypotheses_true s (last_hypotheses processes) ≡ true
last_hypotheses_true s [] h = refl
last_hypotheses_true s (p ∷ processes) h = and_from _ _ h.0 (last_hypotheses_true s processes h.1)

-- the assertion at the end of the prologue
abbrev pub prologue_end : Option Sequence → Formula
prologue_end None = True
prologue_end (Some part) = (last_of part).assertion

module _ (R : Statement → Type 0) where
  -- the current assertion is one that the others keep
  current_note : (p : Sequence) (IsA : Action → Type 0) (rest : Rest) → Chain (IsHead R p) IsA rest (last_of p).assertion → IsNote p (head_or rest (last_of p).assertion)
  current_note p IsA [] c = last_is_note p
  current_note p IsA (head ∷ rest) c = c.1.head.0

  -- ---- the main process, which no other one disturbs

  abbrev pub MainHead : Formula → Statement → Type 0
  MainHead a stmt = R stmt

  abbrev pub MainAction : Action → Type 0
  MainAction action = Unit {0}

  main_known : (p : Sequence) → Meets R p → Each (IsKnown MainHead MainAction) (pieces p)
  main_known p = each_weaker (λ piece. R piece.stmt) (IsKnown MainHead MainAction) (λ piece h. (h, any_action _)) (pieces p)

  main_chain : (n : ℕ) (p : Sequence) → Meets R p → AreValid (seq_conditions n p) → Chain MainHead MainAction (items p) (last_of p).assertion
  main_chain n p meets valid = seq_chain MainHead MainAction n p valid (main_known p meets)

  -- ---- the invariant

  -- the current assertion of each process but the main one is true
  abbrev pub Currents : Program → Moment → Type 0
  Currents o m = (i : ℕ) (p : Sequence) → slice_get o.processes i ≡ Some p → truth (head_or (rest_of m i) (last_of p).assertion) m.state ≡ true

  -- it will be where the prologue ends
  abbrev pub Starts : Program → Moment → Type 0
  Starts o m = (s : List ℤ) → IsProper s → truth (prologue_end o.prologue) s ≡ true → (i : ℕ) (p : Sequence) → slice_get o.processes i ≡ Some p → truth (head_or (rest_of m i) (last_of p).assertion) s ≡ true

  -- and that of the epilogue will be where they end
  abbrev pub Ends : Program → Moment → Type 0
  Ends o m = (s : List ℤ) → IsProper s → Each (λ p. truth (last_of p).assertion s ≡ true) o.processes → truth (head_or m.epilogue o.post.assertion) s ≡ true

  abbrev pub Now : Program → Moment → Phase → Type 0
  Now o m Before = (truth (head_or m.prologue (prologue_end o.prologue)) m.state ≡ true) × Starts o m × Ends o m
  Now o m During = Currents o m × Ends o m
  Now o m After = (truth (head_or m.epilogue o.post.assertion) m.state ≡ true) × (is_some o.epilogue ≡ false → Currents o m)

  pub record IsInvariant (o : Program) (m : Moment) : Type 0 where
    pub proper : IsProper m.state
    pub count : length m.rests ≡ length o.processes
    pub opening : Chain MainHead MainAction m.prologue (prologue_end o.prologue)
    pub chains : (i : ℕ) (p : Sequence) → slice_get o.processes i ≡ Some p → Chain (IsHead R p) (IsAction o.processes i) (rest_of m i) (last_of p).assertion
    pub closing : Chain MainHead MainAction m.epilogue o.post.assertion
    pub no_prologue : is_some o.prologue ≡ false → is_empty m.prologue ≡ true
    pub no_epilogue : is_some o.epilogue ≡ false → is_empty m.epilogue ≡ true
    pub now : Now o m (phase m)

  -- a process that has something left is a process of the outline
  pub process_of : (ps : List Sequence) (m : Moment) (i : ℕ) (head : Formula × Statement) (rest : Rest) → length m.rests ≡ length ps → rest_of m i ≡ head ∷ rest → (p : Sequence) × (slice_get ps i ≡ Some p) × (i < length m.rests)
  process_of ps m i head rest n e =
      ⊎_elim
      (λ here. ⊎_elim (λ there. (there.0, there.2, here.1)) (λ past. absurd (omega (arith, n, here.1, past.0))) (slice_get_cases ps i).1)
      (λ past. absurd (grind (arith, e, past.1)))
      (slice_get_cases m.rests i).1

  if_some_map : {X Y : Type 0} (f : X → Y) (P : X → Type 0) (Q : Y → Type 0) (o : Option X) → ((x : X) → P x → Q (f x)) → IfSome o P → IfSome (option_map f o) Q
  if_some_map f P Q None g h = tt
  if_some_map f P Q (Some x) g h = g x h

  -- ---- from one phase to the next

  enter_processes : (o : Program) (m : Moment) → is_empty m.prologue ≡ true → IsProper m.state → Currents o m → Ends o m → Now o m (phase m)
  enter_processes o m e proper currents ends = subst (λ b. Now o m (phase_by b (all_empty m.rests))) (sym e) (go (all_empty m.rests) refl)
    where
      go : (b : Bool) → all_empty m.rests ≡ b → Now o m (phase_by true b)
      go false f = (currents, ends)
      go true f = (
        ends m.state proper
            (each_from_at (λ p. truth (last_of p).assertion m.state ≡ true) o.processes
            (λ i p g. subst (λ rest. truth (head_or rest (last_of p).assertion) m.state ≡ true) (nothing_left m.rests i f) (currents i p g))),
        λ _. currents,
      )

  enter_prologue : (o : Program) (m : Moment) → IsProper m.state → truth (head_or m.prologue (prologue_end o.prologue)) m.state ≡ true → Starts o m → Ends o m → Now o m (phase m)
  enter_prologue o m proper h starts ends = go m.prologue refl
    where
      go : (rest : Rest) → m.prologue ≡ rest → Now o m (phase m)
      go [] e =
          enter_processes o m (ap is_empty e) proper
          (starts m.state proper (subst (λ rest. truth (head_or rest (prologue_end o.prologue)) m.state ≡ true) e h)) ends
      go (head ∷ rest) e = subst (λ b. Now o m (phase_by b (all_empty m.rests))) (sym (ap is_empty e)) (h, starts, ends)

  -- ---- the start

  -- from variable x on, the values at the end of a state are the initial ones
  starts_true : (front values : List ℤ) (x : ℕ) → x ≡ length front → hypotheses_true (front ++ values) (starts x values) ≡ true
  starts_true front [] x n = refl
  starts_true front (v ∷ values) x n =
      let there : get_or (front ++ v ∷ values) x (pos 0) ≡ v = ap (λ k. get_or (front ++ v ∷ values) k (pos 0)) n ∙ get_or-append_seam front v values (pos 0) in
      let more : x + 1 ≡ length (front ++ v ∷ []) = omega (arith, n, length-append front (v ∷ [])) in
      and_from _ _ ((Decides-int_eq _ v).1 there)
      (subst (λ s. hypotheses_true s (starts (x + 1) values) ≡ true) (append_assoc front (v ∷ []) values) (starts_true (front ++ v ∷ []) values (x + 1) more))

  module _ (o : Program) (valid : IsSafe o) (meets : AllMeet R o) where
    abbrev pub processes : List Sequence
    processes = o.processes

    abbrev pub variables : ℕ
    variables = length o.names

    prologue_valid : AreValid (prologue_conditions o o.prologue)
    prologue_valid = each_left IsValid (prologue_conditions o o.prologue) _ valid

    from_start : AreValid (map (start_condition o) processes ++ (flat_map (seq_conditions variables) processes ++ (interference variables [] processes ++ end_condition o ∷ epilogue_conditions o o.epilogue)))
    from_start = each_right IsValid (prologue_conditions o o.prologue) _ valid

    start_valid : Each (λ p. IsValid (start_condition o p)) processes
    start_valid = each_of_map IsValid (start_condition o) processes (each_left IsValid (map (start_condition o) processes) _ from_start)

    local_valid : Each (λ p. AreValid (seq_conditions variables p)) processes
    local_valid =
        each_flat IsValid (seq_conditions variables) processes
        (each_left IsValid (flat_map (seq_conditions variables) processes) _ (each_right IsValid (map (start_condition o) processes) _ from_start))

    from_interference : AreValid (interference variables [] processes ++ end_condition o ∷ epilogue_conditions o o.epilogue)
    from_interference =
        each_right IsValid (flat_map (seq_conditions variables) processes) _
        (each_right IsValid (map (start_condition o) processes) _ from_start)

    interference_valid : AreValid (interference variables [] processes)
    interference_valid = each_left IsValid (interference variables [] processes) _ from_interference

    end_valid : IsValid (end_condition o)
    end_valid = (each_right IsValid (interference variables [] processes) _ from_interference).0

    epilogue_valid : AreValid (epilogue_conditions o o.epilogue)
    epilogue_valid = (each_right IsValid (interference variables [] processes) _ from_interference).1

    -- the epilogue leads from what the processes end in to the postcondition
    epilogue_ready : (part : Option Sequence) → IfSome part (Meets R) → AreValid (epilogue_conditions o part) → Chain MainHead MainAction (part_items part) o.post.assertion × Gives (end_note o part).assertion (head_or (part_items part) o.post.assertion)
    epilogue_ready None meet v = (tt, gives_itself o.post.assertion o.post.assertion refl)
    epilogue_ready (Some part) meet v =
        let last = (last_of part).assertion in
        let first = (first_of part).assertion in
        let chain = main_chain variables part meet (each_left IsValid (seq_conditions variables part) _ v) in
        let finish : Gives last o.post.assertion = λ s proper h. (each_right IsValid (seq_conditions variables part) _ v).0 s proper (and_from _ _ h refl) in
        let begin : Gives first (head_or (items part) last) = gives_itself first (head_or (items part) last) (seq_first MainHead MainAction part) in
        subst (λ rest. Chain MainHead MainAction rest o.post.assertion × Gives first (head_or rest o.post.assertion)) (append-nil (items part)) (
          chain_append MainHead MainAction (items part) [] last o.post.assertion chain finish tt,
          head_append MainHead MainAction first last o.post.assertion (items part) [] begin finish,
        )

    ends_true : Ends o (record { state = []; prologue = []; rests = []; epilogue = part_items o.epilogue })
    ends_true s proper lasts =
        (epilogue_ready o.epilogue meets.2 epilogue_valid).1 s proper (end_valid s proper (last_hypotheses_true s processes lasts))

    rest_at_start : (values : List ℤ) (i : ℕ) (p : Sequence) → slice_get processes i ≡ Some p → rest_of (start_of o values) i ≡ items p
    rest_at_start values i p e = ap (λ r. unwrap_or r []) (slice_get-map items processes i ∙ ap (option_map items) e)

    -- where the hypotheses of the start are true, each process's first assertion is
    first_true : (values s : List ℤ) → IsProper s → hypotheses_true s (start_hypotheses o o.prologue) ≡ true → (i : ℕ) (p : Sequence) → slice_get processes i ≡ Some p → truth (head_or (rest_of (start_of o values) i) (last_of p).assertion) s ≡ true
    first_true values s proper h i p e =
        subst (λ rest. truth (head_or rest (last_of p).assertion) s ≡ true) (sym (rest_at_start values i p e))
        (subst (λ a. truth a s ≡ true) (seq_first MainHead MainAction p)
        (each_at (λ p. IsValid (start_condition o p)) processes i p start_valid e s proper h))

    start_now : (values : List ℤ) → IsStart o values → (part : Option Sequence) → o.prologue ≡ part → AreValid (prologue_conditions o part) → Now o (start_of o values) (phase (start_of o values))
    start_now values start None e v =
        let begins = and_from _ _ start.2 (starts_true values o.aux_values o.vars (sym start.0)) in
        enter_processes o (start_of o values) (ap (λ part. is_empty (part_items part)) e) start.1
        (first_true values (start_state o values) start.1 (subst (λ part. hypotheses_true (start_state o values) (start_hypotheses o part) ≡ true) (sym e) begins))
        ends_true
    start_now values start (Some part) e v =
        let begins = and_from _ _ start.2 (starts_true values o.aux_values o.vars (sym start.0)) in
        enter_prologue o (start_of o values) start.1
        (subst (λ part. truth (head_or (part_items part) (prologue_end part)) (start_state o values) ≡ true) (sym e)
        (subst (λ a. truth a (start_state o values) ≡ true) (seq_first MainHead MainAction part) (v.0 (start_state o values) start.1 begins)))
        (λ s proper h. first_true values s proper
        (subst (λ part. hypotheses_true s (start_hypotheses o part) ≡ true) (sym e) (and_from _ _ (subst (λ part. truth (prologue_end part) s ≡ true) e h) refl)))
        ends_true

    prologue_chain : (part : Option Sequence) → IfSome part (Meets R) → AreValid (prologue_conditions o part) → Chain MainHead MainAction (part_items part) (prologue_end part)
    prologue_chain None meet v = tt
    prologue_chain (Some part) meet v = main_chain variables part meet v.1

    absent : (part : Option Sequence) → is_some part ≡ false → is_empty (part_items part) ≡ true
    absent None e = refl
    absent (Some part) e = absurd (both_ways true e refl)

    pub start_invariant : (values : List ℤ) → IsStart o values → IsInvariant o (start_of o values)
    start_invariant values start = record {
      proper = start.1;
      count = length-map processes items;
      opening = prologue_chain o.prologue meets.0 prologue_valid;
      chains = λ i p e.
          let known = all_known R variables processes i p interference_valid e (each_at (Meets R) processes i p meets.1 e) in
          subst (λ r. Chain (IsHead R p) (IsAction processes i) r (last_of p).assertion) (sym (rest_at_start values i p e))
          (seq_chain (IsHead R p) (IsAction processes i) variables p (each_at (λ p. AreValid (seq_conditions variables p)) processes i p local_valid e) known);
      closing = (epilogue_ready o.epilogue meets.2 epilogue_valid).0;
      no_prologue = absent o.prologue;
      no_epilogue = absent o.epilogue;
      now = start_now values start o.prologue refl prologue_valid;
    }

  -- ---- a step

  pub rest_set_same : (m : Moment) (i : ℕ) (after : List ℤ × Rest) → i < length m.rests → rest_of (with_rest m i after) i ≡ after.1
  rest_set_same m i after within = unwrap_or-slice_get (set m.rests i after.1) i [] ∙ get_or-set_same m.rests i after.1 [] within

  pub rest_set_other : (m : Moment) (i j : ℕ) (after : List ℤ × Rest) → j ≢ i → rest_of (with_rest m i after) j ≡ rest_of m j
  rest_set_other m i j after ne =
      unwrap_or-slice_get (set m.rests i after.1) j [] ∙ get_or-set_other m.rests i j after.1 [] ne ∙ sym (unwrap_or-slice_get m.rests j [])

  -- what another process does leaves the current assertion true
  other_true : (ps : List Sequence) (i j : ℕ) (q : Sequence) (s r : List ℤ) (rest : Rest) (IsN : Formula → Statement → Type 0) → IsProper s → j ≢ i → slice_get ps j ≡ Some q → Effect IsN (IsAction ps i) s r → IsReady (IsHead R q) (IsAction ps j) s rest (last_of q).assertion → truth (head_or rest (last_of q).assertion) r ≡ true
  other_true ps i j q s r rest IsN proper ne e (inl same) ready = subst (λ t. truth (head_or rest (last_of q).assertion) t ≡ true) (sym same) ready.1
  other_true ps i j q s r rest IsN proper ne e (inr done) ready =
      let a = head_or rest (last_of q).assertion in
      let note = current_note q (IsAction ps j) rest ready.0 in
      let kept = each_among (IsKept done.0) (texts q) a (each_map (IsKept done.0) (λ note. note.assertion) (notes q) (done.1 (j, q, ne, e))) note in
      subst (λ t. truth a t ≡ true) (sym done.3) (kept s proper done.2 ready.1)

  -- of a process
  step_invariant : (o : Program) (m : Moment) (i : ℕ) (p : Sequence) (after : List ℤ × Rest) → IsInvariant o m → is_empty m.prologue ≡ true → Currents o m → Ends o m → slice_get o.processes i ≡ Some p → i < length m.rests → IsGood (IsHead R p) (IsAction o.processes i) m.state (last_of p).assertion after → IsInvariant o (with_rest m i after)
  step_invariant o m i p after inv begun currents ends e within good = record {
    proper = good.0;
    count = length-set m.rests i after.1 ∙ inv.count;
    opening = inv.opening;
    chains = λ j q f. (ready j q f).0;
    closing = inv.closing;
    no_prologue = inv.no_prologue;
    no_epilogue = inv.no_epilogue;
    now = enter_processes o (with_rest m i after) begun good.0 (λ j q f. (ready j q f).1) ends;
  }
    where
      Ready : ℕ → Sequence → Rest → Type 0
      Ready j q rest = IsReady (IsHead R q) (IsAction o.processes j) after.0 rest (last_of q).assertion

      mine : (j : ℕ) (q : Sequence) → slice_get o.processes j ≡ Some q → j ≡ i → Ready j q (rest_of (with_rest m i after) j)
      mine j q f same =
          let f' : slice_get o.processes i ≡ Some q = subst (λ k. slice_get o.processes k ≡ Some q) same f in
          let here : Ready i p (rest_of (with_rest m i after) i) = subst (Ready i p) (sym (rest_set_same m i after within)) good.1 in
          let at_q : Ready i q (rest_of (with_rest m i after) i) = subst (λ r. Ready i r (rest_of (with_rest m i after) i)) (same_Some p q (sym e ∙ f')) here in
          subst (λ k. Ready k q (rest_of (with_rest m i after) k)) (sym same) at_q

      others : (j : ℕ) (q : Sequence) → slice_get o.processes j ≡ Some q → (j ≡ i → ⊥) → Ready j q (rest_of (with_rest m i after) j)
      others j q f ne =
          let chain = inv.chains j q f in
          subst (Ready j q) (sym (rest_set_other m i j after ne))
          (chain, other_true o.processes i j q m.state after.0 (rest_of m j) (IsHead R p) inv.proper ne f good.2 (chain, currents j q f))

      ready : (j : ℕ) (q : Sequence) → slice_get o.processes j ≡ Some q → Ready j q (rest_of (with_rest m i after) j)
      ready j q f = ⊎_elim (mine j q f) (others j q f) (cases_eq j i)

  -- of the main process
  prologue_invariant : (o : Program) (m : Moment) (after : List ℤ × Rest) → IsInvariant o m → Now o m Before → is_empty m.prologue ≡ false → IsGood MainHead MainAction m.state (prologue_end o.prologue) after → IsInvariant o (with_prologue m after)
  prologue_invariant o m after inv now full good = record {
    proper = good.0;
    count = inv.count;
    opening = good.1.0;
    chains = inv.chains;
    closing = inv.closing;
    no_prologue = λ none. absurd (both_ways (is_empty m.prologue) full (inv.no_prologue none));
    no_epilogue = inv.no_epilogue;
    now = enter_prologue o (with_prologue m after) good.0 good.1.1 now.1 now.2;
  }

  epilogue_invariant : (o : Program) (m : Moment) (after : List ℤ × Rest) → IsInvariant o m → phase m ≡ After → is_empty m.epilogue ≡ false → IsGood MainHead MainAction m.state o.post.assertion after → IsInvariant o (with_epilogue m after)
  epilogue_invariant o m after inv e full good =
      let missing : is_some o.epilogue ≡ false → ⊥ = λ none. both_ways (is_empty m.epilogue) full (inv.no_epilogue none) in
      record {
        proper = good.0;
        count = inv.count;
        opening = inv.opening;
        chains = inv.chains;
        closing = good.1.0;
        no_prologue = inv.no_prologue;
        no_epilogue = λ none. absurd (missing none);
        now = subst (Now o (with_epilogue m after)) (sym e) (good.1.1, λ none. absurd (missing none));
      }

  -- ---- runs

  next_invariant : (o : Program) (m : Moment) (i : ℕ) → IsInvariant o m → IfSome (next m i) (IsInvariant o)
  next_invariant o m i inv = go (phase m) refl inv.now
    where
      opening : (b : Bool) → phase m ≡ Before → Now o m Before → IfSome (if b then option_map (with_prologue m) (advance_rest m.state m.prologue) else None) (IsInvariant o)
      opening false f now = tt
      opening true f now =
          if_some_map (with_prologue m) _ (IsInvariant o) (advance_rest m.state m.prologue)
          (λ after h. prologue_invariant o m after inv now h.0 h.1)
          (rest_good MainHead MainAction m.state m.prologue (prologue_end o.prologue) inv.proper (inv.opening, now.0))

      closing : (b : Bool) → phase m ≡ After → Now o m After → IfSome (if b then option_map (with_epilogue m) (advance_rest m.state m.epilogue) else None) (IsInvariant o)
      closing false f now = tt
      closing true f now =
          if_some_map (with_epilogue m) _ (IsInvariant o) (advance_rest m.state m.epilogue)
          (λ after h. epilogue_invariant o m after inv f h.0 h.1)
          (rest_good MainHead MainAction m.state m.epilogue o.post.assertion inv.proper (inv.closing, now.0))

      between : (rest : Rest) → rest_of m i ≡ rest → phase m ≡ During → Now o m During → IfSome (option_map (with_rest m i) (advance_rest m.state rest)) (IsInvariant o)
      between [] e f now = tt
      between (head ∷ rest) e f now =
          let there = process_of o.processes m i head rest inv.count e in
          let p = there.0 in
          let last = (last_of p).assertion in
          let ready = subst (λ r. IsReady (IsHead R p) (IsAction o.processes i) m.state r last) e (inv.chains i p there.1, now.0 i p there.1) in
          if_some_map (with_rest m i) (IsGood (IsHead R p) (IsAction o.processes i) m.state last) (IsInvariant o) (advance m.state head.0 head.1 rest)
          (λ after good. step_invariant o m i p after inv (under_way m f).0 now.0 now.1 there.1 there.2 good)
          (advance_good (IsHead R p) (IsAction o.processes i) m.state head.0 head.1 rest last inv.proper ready.0 ready.1)

      go : (f : Phase) → phase m ≡ f → Now o m f → IfSome (next_in f m i) (IsInvariant o)
      go Before f now = opening (is_last m i) f now
      go During f now = between (rest_of m i) refl f now
      go After f now = closing (is_last m i) f now

  pub run_invariant : (o : Program) (run : List ℕ) (m last : Moment) → IsInvariant o m → run_on run (Some m) ≡ Some last → IsInvariant o last
  run_invariant o [] m last inv e = subst (IsInvariant o) (same_Some m last e) inv
  run_invariant o (i ∷ run) m last inv e = go (next m i) (next_invariant o m i inv) e (λ n. run_invariant o run n last)
    where
      go : (a : Option Moment) → IfSome a (IsInvariant o) → run_on run a ≡ Some last → ((n : Moment) → IsInvariant o n → run_on run (Some n) ≡ Some last → IsInvariant o last) → IsInvariant o last
      go None h f rec = absurd (none-some last f)
      go (Some n) h f rec = rec n h f
