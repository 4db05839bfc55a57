-- What is promised of every run of the completed outline holds of every run of the given one.
use Rattle.std.proofs.Common.{◌≡◌, ◌≤◌, ℕ, zero, suc, ℤ, List, [], ◌∷◌, length, take, true, false, not, ◌&&◌, ◌||◌, ◌==◌, nat_lt, if◌then◌else◌, Some, None, Option, IfSome, unwrap_or, slice_get, option_map, refl, sym, ap, ap₂, ◌∙◌, subst}
use Rattle.std.specs.List.{AllByRecursion}
use Rattle.og_typed.specs.Syntax.{Formula, Set, Statement, Skip, Assign, If, While, Await, Sequence, Last, Then, Program, Rest, last_of}
use Rattle.og_typed.specs.Truth.{truth}
use Rattle.og_typed.specs.Machine.{all_fit, Moment, Phase, Before, During, After, phase, rest_of, is_empty, is_last, IsReached, head_or, is_main, is_process, active, active_in, main_rest, todo, end_of, current, is_finished, stmt_overflows, rest_overflows, overflows}
use Rattle.og_typed.specs.Rule.{IsOutline, IsUsable, IsUsableSequence, IsUsableStatement}
use Rattle.og_typed.specs.Stuck.{stmt_waits, rest_waits, waits}
use Rattle.og_theorem.specs.Sound.{IsSound}
use Rattle.og_theorem.specs.NeverStuck.{IsNeverStuck}
use Rattle.og_completion.specs.Completes.{Implies, InBoth, SequenceCompletes, StatementCompletes, Completes}
use Rattle.og_completion.proofs.Actions.{truth_before, body_fits, body_itself}
use Rattle.og_completion.proofs.OneByOne.{each_length, each_get, some_same, each_if}
use Rattle.og_completion.proofs.Runs.{HeadCompletes, RestCompletes, guard_same, empty_same, all_empty_same, MomentCompletes, phase_same, last_same, rest_completes, reached_both}

module _ (n : ℕ) where
  -- ---- the questions about a rest

  statement_overflows : (s : List ℤ) (p q : Statement) → n ≤ length s → StatementCompletes n p q → IsUsableStatement n q → stmt_overflows s p ≡ stmt_overflows (take n s) q
  statement_overflows s Skip Skip long h u = refl
  statement_overflows s (Assign x e) (Assign y f) long h u =
      ap₂ (λ z d. not (all_fit (Set z d ∷ []) s)) h.0 h.1
      ∙ ap not (body_fits n (Set y f ∷ []) (Set y f ∷ []) (body_itself n (Set y f ∷ [])) (u, tt) s long)
  statement_overflows s (Await b body) (Assign y f) long h u =
      ap (λ c. truth c s && not (all_fit body s)) h.0
      ∙ ap not (body_fits n body (Set y f ∷ []) h.1 (u, tt) s long)
  statement_overflows s (If b p other) (If c q old_other) long h u = refl
  statement_overflows s (While b p) (While c q) long h u = refl
  statement_overflows s (Await b body) (Await c old_body) long h u =
      ap₂ (λ t f. t && not f) (guard_same n b c s h.0 u.0) (body_fits n body old_body h.1 u.1 s long)
  statement_overflows s _ _ long h u = absurd h

  statement_waits : (s : List ℤ) (p q : Statement) → StatementCompletes n p q → IsUsableStatement n q → stmt_waits s p ≡ stmt_waits (take n s) q
  statement_waits s Skip Skip h u = refl
  statement_waits s (Assign x e) (Assign y f) h u = refl
  statement_waits s (Await b body) (Assign y f) h u = ap (λ c. not (truth c s)) h.0
  statement_waits s (If b p other) (If c q old_other) h u = refl
  statement_waits s (While b p) (While c q) h u = refl
  statement_waits s (Await b body) (Await c old_body) h u = ap not (guard_same n b c s h.0 u.0)
  statement_waits s _ _ h u = absurd h

  rest_overflows_same : (s : List ℤ) (xs ys : Rest) → n ≤ length s → RestCompletes n xs ys → rest_overflows s xs ≡ rest_overflows (take n s) ys
  rest_overflows_same s [] [] long h = refl
  rest_overflows_same s (x ∷ xs) (y ∷ ys) long h = statement_overflows s x.1 y.1 long h.0.1 h.0.3
  rest_overflows_same s _ _ long h = absurd h

  rest_waits_same : (s : List ℤ) (xs ys : Rest) → RestCompletes n xs ys → rest_waits s xs ≡ rest_waits (take n s) ys
  rest_waits_same s [] [] h = refl
  rest_waits_same s (x ∷ xs) (y ∷ ys) h = statement_waits s x.1 y.1 h.0.1 h.0.3
  rest_waits_same s _ _ h = absurd h

  -- the new assertion implies the old one, which reads the old variables alone
  abbrev Claims : Formula → Formula → Type 0
  Claims new old = Implies new old × IsUsable n old

  head_claims : (xs ys : Rest) (a b : Formula) → RestCompletes n xs ys → Claims a b → Claims (head_or xs a) (head_or ys b)
  head_claims [] [] a b h k = k
  head_claims (x ∷ xs) (y ∷ ys) a b h k = (h.0.0, h.0.2)
  head_claims _ _ a b h k = absurd h

  last_claims : (p q : Sequence) → SequenceCompletes n p q → IsUsableSequence n q → Claims (last_of p).assertion (last_of q).assertion
  last_claims (Last new) (Last old) h u = (h, u)
  last_claims (Then new stmt at rest) (Then old old_stmt old_at old_rest) h u = last_claims rest old_rest h.2 u.2
  last_claims _ _ h u = absurd h

  equal_implies : (a b : Formula) → a ≡ b → Implies a b
  equal_implies a b e s h = ap (λ c. truth c s) (sym e) ∙ h

  process_usable : (qs : List Sequence) (p : ℕ) → AllByRecursion (IsUsableSequence n) qs → IfSome (slice_get qs p) (IsUsableSequence n)
  process_usable [] p u = tt
  process_usable (q ∷ qs) zero u = u.0
  process_usable (q ∷ qs) (suc p) u = process_usable qs p u.1

  -- ---- the questions about a moment

  module _ (new old : Moment) (h : MomentCompletes n new old) where
    main_completes : RestCompletes n (main_rest new) (main_rest old)
    main_completes =
        subst (λ t. RestCompletes n (main_rest new) (if t then old.epilogue else old.prologue)) (empty_same n new.prologue old.prologue h.opening)
        (each_if (HeadCompletes n) (is_empty new.prologue) new.epilogue old.epilogue new.prologue old.prologue h.closing h.opening)

    todo_completes : (p : ℕ) → RestCompletes n (todo new p) (todo old p)
    todo_completes p =
        subst (λ t. RestCompletes n (todo new p) (if t then main_rest old else rest_of old p)) (last_same n new old h p)
        (each_if (HeadCompletes n) (is_last new p) (main_rest new) (main_rest old) (rest_of new p) (rest_of old p) main_completes (rest_completes n new old h p))

    overflows_same : (p : ℕ) → overflows new p ≡ overflows old p
    overflows_same p =
        rest_overflows_same new.state (todo new p) (todo old p) h.long (todo_completes p) ∙ ap (λ s. rest_overflows s (todo old p)) h.state

    waits_same : (p : ℕ) → waits new p ≡ waits old p
    waits_same p =
        rest_waits_same new.state (todo new p) (todo old p) (todo_completes p) ∙ ap (λ s. rest_waits s (todo old p)) h.state

    rest_empty_same : (p : ℕ) → is_empty (rest_of new p) ≡ is_empty (rest_of old p)
    rest_empty_same p = empty_same n (rest_of new p) (rest_of old p) (rest_completes n new old h p)

    finished_same : is_finished new ≡ is_finished old
    finished_same = λ i.
        empty_same n new.prologue old.prologue h.opening i
        && (all_empty_same n new.rests old.rests h.between i && empty_same n new.epilogue old.epilogue h.closing i)

module _ (new old : Program) (h : Completes new old) (rule : IsOutline new) (old_rule : IsOutline old) where
  abbrev count : ℕ
  count = length old.names

  number_same : length new.processes ≡ length old.processes
  number_same = each_length (SequenceCompletes count) new.processes old.processes h.processes

  main_same : (p : ℕ) → is_main new p ≡ is_main old p
  main_same p = λ i.
      (some_same (SequenceCompletes count) new.prologue old.prologue h.prologue i
      || some_same (SequenceCompletes count) new.epilogue old.epilogue h.epilogue i)
      && p == number_same i

  process_same : (p : ℕ) → is_process new p ≡ is_process old p
  process_same p = ap (nat_lt p) number_same

  active_in_same : (f : Phase) (p : ℕ) → active_in f new p ≡ active_in f old p
  active_in_same Before p = main_same p
  active_in_same During p = process_same p
  active_in_same After p = λ i. main_same p i || (process_same p i && not (some_same (SequenceCompletes count) new.epilogue old.epilogue h.epilogue i))

  active_same : (k m : Moment) → MomentCompletes count k m → (p : ℕ) → active new k p ≡ active old m p
  active_same k m c p = ap (λ f. active_in f new p) (phase_same count k m c) ∙ active_in_same (phase m) p

  end_claims : (p : ℕ) → Claims count (end_of new p) (end_of old p)
  end_claims p =
      go (slice_get new.processes p) (slice_get old.processes p) (each_get (SequenceCompletes count) new.processes old.processes p h.processes) (process_usable count old.processes p old_rule.usable)
    where
      go : (a b : Option Sequence) → InBoth (SequenceCompletes count) a b → IfSome b (IsUsableSequence count) → Claims count (unwrap_or (option_map (λ process. (last_of process).assertion) a) new.post.assertion) (unwrap_or (option_map (λ process. (last_of process).assertion) b) old.post.assertion)
      go None None k u = (equal_implies count new.post.assertion old.post.assertion h.post, old_rule.post_usable)
      go (Some p) (Some q) k u = last_claims count p q k u
      go _ _ k u = absurd k

  current_claims : (k m : Moment) → MomentCompletes count k m → (p : ℕ) → Claims count (current new k p) (current old m p)
  current_claims k m c p =
      head_claims count (todo k p) (todo m p) (end_of new p) (end_of old p) (todo_completes count k m c p) (end_claims p)

  -- ---- the promises

  pub sound_still : IsSound new → IsSound old
  sound_still sound = record {
    current_holds = λ m r p live.
        let there = reached_both new old h rule old_rule m r in
        let k = there.0 in
        let claims = current_claims k m there.2 p in
        ap (truth (current old m p)) (sym there.2.state)
        ∙ sym (truth_before count (current old m p) k.state claims.1)
        ∙ claims.0 k.state (sound.current_holds k there.1 p (active_same k m there.2 p ∙ live));
    never_overflows = λ m r p live.
        let there = reached_both new old h rule old_rule m r in
        sym (overflows_same count there.0 m there.2 p) ∙ sound.never_overflows there.0 there.1 p (active_same there.0 m there.2 p ∙ live);
    post_at_end = λ m r done.
        let there = reached_both new old h rule old_rule m r in
        let k = there.0 in
        ap (truth old.post.assertion) (sym there.2.state)
        ∙ sym (truth_before count old.post.assertion k.state old_rule.post_usable)
        ∙ ap (λ f. truth f k.state) (sym h.post)
        ∙ sound.post_at_end k there.1 (finished_same count k m there.2 ∙ done);
  }

  pub never_stuck_still : IsNeverStuck new → IsNeverStuck old
  never_stuck_still never m r stuck =
      let there = reached_both new old h rule old_rule m r in
      let k = there.0 in
      never k there.1 (
        finished_same count k m there.2 ∙ stuck.0,
        active_same k m there.2 (length new.processes) ∙ ap (active old m) number_same ∙ stuck.1,
        λ p is left.
            waits_same count k m there.2 p
            ∙ stuck.2 p (sym (process_same p) ∙ is) (sym (rest_empty_same count k m there.2 p) ∙ left),
      )
