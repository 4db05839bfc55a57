-- Each run of an outline is one of an outline that completes it, through states that agree on the old variables.
use Rattle.std.proofs.Common.{◌≡◌, ◌≤◌, ℕ, ℤ, List, [], ◌∷◌, ◌++◌, ◌&&◌, ◌==◌, if◌then◌else◌, take, length, map, Some, None, Option, IfSome, unwrap_or, slice_get, option_map, refl, sym, ap, ap₂, ◌∙◌, subst, append_assoc, length-append, arith}
use Rattle.std.specs.List.{AllByRecursion}
use Rattle.std.proofs.lemmas.List.Elements.{All-append, recursion_from_All, All-from_recursion}
use Rattle.std.proofs.Math.Seq.{take-append_seam}
use mir.Syntax.{w64}
use Rattle.std.proofs.Common.{FitsSigned}
use Rattle.og_linear.specs.Linear.{FormValue, IsProper}
use Rattle.og_typed.specs.Syntax.{Formula, True, Simple, Set, Statement, Skip, Assign, If, While, Await, Otherwise, Nothing, Else, Sequence, Last, Then, Program, Rest, items, part_items, else_items}
use Rattle.og_typed.specs.Truth.{truth}
use Rattle.og_typed.specs.Machine.{act, all_fit, attempt, advance, advance_rest, Moment, Phase, Before, During, After, phase, phase_by, with_rest, with_prologue, with_epilogue, rest_of, is_empty, all_empty, is_last, next_in, next, run_on, start_state, IsStart, start_of, IsReached}
use Rattle.og_typed.specs.Rule.{IsOutline, IsUsable, IsUsableSimple, IsUsableSequence, IsUsableStatement, IsUsableOtherwise}
use Rattle.og_typed.proofs.Each.{each_left}
use Rattle.og_completion.specs.Completes.{Implies, OneByOne, InBoth, BodyCompletes, SequenceCompletes, StatementCompletes, OtherwiseCompletes, Completes}
use Rattle.og_completion.proofs.Actions.{truth_before, body_fits, body_acts, act_long, body_itself}
use Rattle.og_completion.proofs.OneByOne.{each_append, each_length, each_set, each_get, both_if, each_if, both_map}

module _ (n : ℕ) where
  -- ---- rests, the old ones of the first n variables alone

  abbrev pub HeadCompletes : Formula × Statement → Formula × Statement → Type 0
  HeadCompletes new old = Implies new.0 old.0 × StatementCompletes n new.1 old.1 × IsUsable n old.0 × IsUsableStatement n old.1

  abbrev pub RestCompletes : Rest → Rest → Type 0
  RestCompletes = OneByOne HeadCompletes

  sequence_rest : (p q : Sequence) → SequenceCompletes n p q → IsUsableSequence n q → RestCompletes (items p) (items q)
  sequence_rest (Last new) (Last old) h u = tt
  sequence_rest (Then new stmt at rest) (Then old old_stmt old_at old_rest) h u =
      ((h.0, h.1, u.0, u.1), sequence_rest rest old_rest h.2 u.2)
  sequence_rest _ _ h u = absurd h

  else_rest : (p q : Otherwise) → OtherwiseCompletes n p q → IsUsableOtherwise n q → RestCompletes (else_items p) (else_items q)
  else_rest Nothing Nothing h u = tt
  else_rest (Else branch) (Else old_branch) h u = sequence_rest branch old_branch h u
  else_rest _ _ h u = absurd h

  part_rest : (p q : Option Sequence) → InBoth (SequenceCompletes n) p q → IfSome q (IsUsableSequence n) → RestCompletes (part_items p) (part_items q)
  part_rest None None h u = tt
  part_rest (Some part) (Some old_part) h u = sequence_rest part old_part h u
  part_rest _ _ h u = absurd h

  rests_of : (ps qs : List Sequence) → OneByOne (SequenceCompletes n) ps qs → AllByRecursion (IsUsableSequence n) qs → OneByOne RestCompletes (map items ps) (map items qs)
  rests_of [] [] h u = tt
  rests_of (p ∷ ps) (q ∷ qs) h u = (sequence_rest p q h.0 u.0, rests_of ps qs h.1 u.1)
  rests_of _ _ h u = absurd h

  pub empty_same : (xs ys : Rest) → RestCompletes xs ys → is_empty xs ≡ is_empty ys
  empty_same [] [] h = refl
  empty_same (x ∷ xs) (y ∷ ys) h = refl
  empty_same _ _ h = absurd h

  pub all_empty_same : (xs ys : List Rest) → OneByOne RestCompletes xs ys → all_empty xs ≡ all_empty ys
  all_empty_same [] [] h = refl
  all_empty_same (x ∷ xs) (y ∷ ys) h = ap₂ ◌&&◌ (empty_same x y h.0) (all_empty_same xs ys h.1)
  all_empty_same _ _ h = absurd h

  -- ---- a step of one process

  -- the old state is that of the old variables
  abbrev AfterCompletes : List ℤ × Rest → List ℤ × Rest → Type 0
  AfterCompletes new old = (take n new.0 ≡ old.0) × (n ≤ length new.0) × RestCompletes new.1 old.1

  attempt_both : (body old : List Simple) (s : List ℤ) (xs ys : Rest) → n ≤ length s → BodyCompletes n body old → AllByRecursion (IsUsableSimple n) old → RestCompletes xs ys → InBoth AfterCompletes (attempt body s xs) (attempt old (take n s) ys)
  attempt_both body old s xs ys long h u k =
      subst (λ t. InBoth AfterCompletes (attempt body s xs) (if t then Some (act old (take n s), ys) else None)) (body_fits n body old h u s long)
      (both_if AfterCompletes (all_fit body s) (Some (act body s, xs)) (Some (act old (take n s), ys)) None None (body_acts n body old h u s long, act_long n body s long, k) tt)

  pub guard_same : (c d : Formula) (s : List ℤ) → c ≡ d → IsUsable n d → truth c s ≡ truth d (take n s)
  guard_same c d s same u = ap (λ f. truth f s) same ∙ truth_before n d s u

  advance_both : (s : List ℤ) (a b : Formula) (p q : Statement) (xs ys : Rest) → n ≤ length s → Implies a b → IsUsable n b → StatementCompletes n p q → IsUsableStatement n q → RestCompletes xs ys → InBoth AfterCompletes (advance s a p xs) (advance (take n s) b q ys)
  advance_both s a b Skip Skip xs ys long g w h u k = (refl, long, k)
  advance_both s a b (Assign x e) (Assign y f) xs ys long g w h u k =
      subst (λ body. InBoth AfterCompletes (attempt body s xs) (attempt (Set y f ∷ []) (take n s) ys)) (sym (ap₂ (λ z d. Set z d ∷ []) h.0 h.1))
      (attempt_both (Set y f ∷ []) (Set y f ∷ []) s xs ys long (body_itself n (Set y f ∷ [])) (u, tt) k)
  advance_both s a b (Await c body) (Assign y f) xs ys long g w h u k =
      subst (λ c. InBoth AfterCompletes (if truth c s then attempt body s xs else None) (attempt (Set y f ∷ []) (take n s) ys)) (sym h.0)
      (attempt_both body (Set y f ∷ []) s xs ys long h.1 (u, tt) k)
  advance_both s a b (If c p other) (If d q old_other) xs ys long g w h u k = (
    refl,
    long,
    each_append HeadCompletes (if truth c s then items p else else_items other) (if truth d (take n s) then items q else else_items old_other) xs ys
        (subst (λ t. RestCompletes (if truth c s then items p else else_items other) (if t then items q else else_items old_other)) (guard_same c d s h.0 u.0)
        (each_if HeadCompletes (truth c s) (items p) (items q) (else_items other) (else_items old_other) (sequence_rest p q h.1 u.1) (else_rest other old_other h.2 u.2))) k,
  )
  advance_both s a b (While c p) (While d q) xs ys long g w h u k = (
    refl,
    long,
    subst (λ t. RestCompletes (if truth c s then items p ++ (a, While c p) ∷ xs else xs) (if t then items q ++ (b, While d q) ∷ ys else ys)) (guard_same c d s h.0 u.0)
        (each_if HeadCompletes (truth c s) (items p ++ (a, While c p) ∷ xs) (items q ++ (b, While d q) ∷ ys) xs ys
        (each_append HeadCompletes (items p) (items q) ((a, While c p) ∷ xs) ((b, While d q) ∷ ys) (sequence_rest p q h.1 u.1) ((g, h, w, u), k)) k),
  )
  advance_both s a b (Await c body) (Await d old_body) xs ys long g w h u k =
      subst (λ t. InBoth AfterCompletes (if truth c s then attempt body s xs else None) (if t then attempt old_body (take n s) ys else None)) (guard_same c d s h.0 u.0)
      (both_if AfterCompletes (truth c s) (attempt body s xs) (attempt old_body (take n s) ys) None None (attempt_both body old_body s xs ys long h.1 u.1 k) tt)
  advance_both s a b _ _ xs ys long g w h u k = absurd h

  advance_rest_both : (s t : List ℤ) (xs ys : Rest) → take n s ≡ t → n ≤ length s → RestCompletes xs ys → InBoth AfterCompletes (advance_rest s xs) (advance_rest t ys)
  advance_rest_both s t xs ys e long h = subst (λ r. InBoth AfterCompletes (advance_rest s xs) (advance_rest r ys)) e (go xs ys h)
    where
      go : (us vs : Rest) → RestCompletes us vs → InBoth AfterCompletes (advance_rest s us) (advance_rest (take n s) vs)
      go [] [] k = tt
      go (u ∷ us) (v ∷ vs) k = advance_both s u.0 v.0 u.1 v.1 us vs long k.0.0 k.0.2 k.0.1 k.0.3 k.1
      go _ _ k = absurd k

  -- ---- a step of an outline

  -- the old state is that of the old variables, and each rest completed
  pub record MomentCompletes (new old : Moment) : Type 0 where
    pub state : take n new.state ≡ old.state
    pub long : n ≤ length new.state
    pub opening : RestCompletes new.prologue old.prologue
    pub between : OneByOne RestCompletes new.rests old.rests
    pub closing : RestCompletes new.epilogue old.epilogue

  module _ (new old : Moment) (h : MomentCompletes new old) where
    pub phase_same : phase new ≡ phase old
    phase_same = ap₂ phase_by (empty_same new.prologue old.prologue h.opening) (all_empty_same new.rests old.rests h.between)

    pub last_same : (p : ℕ) → is_last new p ≡ is_last old p
    last_same p = ap (λ n. p == n) (each_length RestCompletes new.rests old.rests h.between)

    pub rest_completes : (p : ℕ) → RestCompletes (rest_of new p) (rest_of old p)
    rest_completes p = go (slice_get new.rests p) (slice_get old.rests p) (each_get RestCompletes new.rests old.rests p h.between)
      where
        go : (a b : Option Rest) → InBoth RestCompletes a b → RestCompletes (unwrap_or a []) (unwrap_or b [])
        go None None k = tt
        go (Some x) (Some y) k = k
        go _ _ k = absurd k

    main_both : (p : ℕ) (put old_put : List ℤ × Rest → Moment) (xs ys : Rest) → RestCompletes xs ys → ((x y : List ℤ × Rest) → AfterCompletes x y → MomentCompletes (put x) (old_put y)) → InBoth MomentCompletes (if is_last new p then option_map put (advance_rest new.state xs) else None) (if is_last old p then option_map old_put (advance_rest old.state ys) else None)
    main_both p put old_put xs ys k keeps =
        let a = option_map put (advance_rest new.state xs) in
        let b = option_map old_put (advance_rest old.state ys) in
        let step : InBoth MomentCompletes a b =
        both_map AfterCompletes MomentCompletes put old_put keeps (advance_rest new.state xs) (advance_rest old.state ys) (advance_rest_both new.state old.state xs ys h.state h.long k) in
        subst (λ t. InBoth MomentCompletes (if is_last new p then a else None) (if t then b else None)) (last_same p)
        (both_if MomentCompletes (is_last new p) a b None None step tt)

    next_in_both : (f : Phase) (p : ℕ) → InBoth MomentCompletes (next_in f new p) (next_in f old p)
    next_in_both Before p =
        main_both p (with_prologue new) (with_prologue old) new.prologue old.prologue h.opening
        (λ x y k. record { state = k.0; long = k.1; opening = k.2; between = h.between; closing = h.closing })
    next_in_both During p =
        both_map AfterCompletes MomentCompletes (with_rest new p) (with_rest old p)
        (λ x y k. record {
          state = k.0;
          long = k.1;
          opening = h.opening;
          between = each_set RestCompletes new.rests old.rests p x.1 y.1 h.between k.2;
          closing = h.closing;
        })
        (advance_rest new.state (rest_of new p)) (advance_rest old.state (rest_of old p))
        (advance_rest_both new.state old.state (rest_of new p) (rest_of old p) h.state h.long (rest_completes p))
    next_in_both After p =
        main_both p (with_epilogue new) (with_epilogue old) new.epilogue old.epilogue h.closing
        (λ x y k. record { state = k.0; long = k.1; opening = h.opening; between = h.between; closing = k.2 })

    next_both : (p : ℕ) → InBoth MomentCompletes (next new p) (next old p)
    next_both p =
        subst (λ f. InBoth MomentCompletes (next new p) (next_in f old p)) phase_same (next_in_both (phase new) p)

  -- ---- runs

  run_both : (ps : List ℕ) (a b : Option Moment) → InBoth MomentCompletes a b → InBoth MomentCompletes (run_on ps a) (run_on ps b)
  run_both ps None None h = tt
  run_both ps None (Some old) h = absurd h
  run_both ps (Some new) None h = absurd h
  run_both [] (Some new) (Some old) h = h
  run_both (p ∷ ps) (Some new) (Some old) h = run_both ps (next new p) (next old p) (next_both new old h p)

module _ (new old : Program) (h : Completes new old) (rule : IsOutline new) (old_rule : IsOutline old) where
  abbrev count : ℕ
  count = length old.names

  -- the new state is the old one, and the initial values of the new auxiliaries
  state_longer : (values : List ℤ) → start_state new values ≡ start_state old values ++ h.more_values
  state_longer values =
      ap (λ more. values ++ more) h.aux_values ∙ sym (append_assoc values old.aux_values h.more_values)

  counted : (values : List ℤ) → length values ≡ old.vars → length (start_state old values) ≡ count
  counted values long = length-append values old.aux_values ∙ omega (arith, long, old_rule.named)

  state_same : (values : List ℤ) → length values ≡ old.vars → take count (start_state new values) ≡ start_state old values
  state_same values long =
      ap (take count) (state_longer values)
      ∙ ap (λ k. take k (start_state old values ++ h.more_values)) (sym (counted values long))
      ∙ take-append_seam (start_state old values) h.more_values

  state_long : (values : List ℤ) → length values ≡ old.vars → count ≤ length (start_state new values)
  state_long values long =
      let more = ap length (state_longer values) ∙ length-append (start_state old values) h.more_values in
      omega (arith, counted values long, more)

  start_both : (values : List ℤ) → length values ≡ old.vars → MomentCompletes count (start_of new values) (start_of old values)
  start_both values long = record {
    state = state_same values long;
    long = state_long values long;
    opening = part_rest count new.prologue old.prologue h.prologue old_rule.prologue_usable;
    between = rests_of count new.processes old.processes h.processes old_rule.usable;
    closing = part_rest count new.epilogue old.epilogue h.epilogue old_rule.epilogue_usable;
  }

  start_new : (values : List ℤ) → IsStart old values → IsStart new values
  start_new values start =
      let own : IsProper values = All-from_recursion (FitsSigned w64) values (each_left (FitsSigned w64) values old.aux_values (recursion_from_All (FitsSigned w64) (start_state old values) start.1)) in (
        start.0 ∙ sym h.vars,
        All-append (FitsSigned w64) values new.aux_values own rule.aux_proper,
        ap (λ f. truth f (start_state new values)) h.pre
            ∙ truth_before count old.pre.assertion (start_state new values) old_rule.pre_usable
            ∙ ap (truth old.pre.assertion) (state_same values start.0)
            ∙ start.2,
      )

  -- each moment that the old outline reaches is matched by one that the completed outline reaches
  pub reached_both : (m : Moment) → IsReached old m → (k : Moment) × IsReached new k × MomentCompletes count k m
  reached_both m r =
      let begin : Option Moment = Some (start_of new r.0) in
      go (run_on r.1 begin) refl
      (subst (λ last. InBoth (MomentCompletes count) (run_on r.1 begin) last) r.3 (run_both count r.1 begin (Some (start_of old r.0)) (start_both r.0 r.2.0)))
    where
      go : (a : Option Moment) → run_on r.1 (Some (start_of new r.0)) ≡ a → InBoth (MomentCompletes count) a (Some m) → (k : Moment) × IsReached new k × MomentCompletes count k m
      go None e k = absurd k
      go (Some k) e same = (k, (r.0, r.1, start_new r.0 r.2, e), same)
