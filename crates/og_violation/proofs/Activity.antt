-- Who is active at a moment, by whose turn it is and by who has something left.
use Rattle.std.proofs.Common.{◌≡◌, ℕ, ℤ, List, [], ◌∷◌, length, Bool, true, false, not, ◌&&◌, ◌||◌, ◌==◌, nat_lt, if◌then◌else◌, Some, None, is_some, slice_get, option_map, unwrap_or, refl, sym, ap, ap₂, ◌∙◌, subst, arith}
use Rattle.std.proofs.lemmas.Bool.{and_parts, and_from, both_ways, eqb-true, eq-eqb, false_from_ne_true, le-ltb, not-true, not-false}
use Rattle.og_typed.specs.Syntax.{Statement, Skip, Assign, If, While, Await, Program, Rest, last_of}
use Rattle.og_typed.specs.Machine.{Moment, Phase, Before, During, After, phase, phase_by, next_in, next, is_empty, all_empty, is_last, advance_rest, with_epilogue, head_or, current, is_main, is_process, active, active_in, todo, is_finished, stmt_overflows, rest_overflows, overflows}
use Rattle.og_typed.specs.Turns.{is_turn, is_early}
use Rattle.og_typed.specs.Stuck.{stmt_waits, rest_waits, waits}
use Rattle.std.proofs.lemmas.Option.{none-some, slice_get_past}
use Rattle.og_typed.proofs.Turns.{IsShaped, turn_active, next_early}
use Rattle.og_theorem.proofs.Sound.{todo_main, main_after}
use Rattle.og_step.specs.declared.turn.Turn.{Turn}
use Rattle.og_step.specs.declared.turn.Turn.TheVariants as turn
use Rattle.og_step.specs.Turns.{turn_of}
use Rattle.og_step.specs.After.{IsAfter}
use Rattle.og_step.specs.Progress.{Progress}
use Rattle.og_violation.specs.Replays.{is_mains_turn}

-- ---- what a turn says

abbrev pick : Bool → Bool → Bool → Bool → Turn
pick a b c d =
    if a then turn.Done else (if b then turn.Early else (if c then turn.Waits else (if d then turn.Overflow else turn.Moved)))

-- its turn has come
abbrev pub IsOn : Turn → Type 0
IsOn turn.Moved = Unit {0}
IsOn turn.Waits = Unit {0}
IsOn turn.Done = ⊥
IsOn turn.Overflow = Unit {0}
IsOn turn.Early = ⊥

on_parts : (a b c d : Bool) → IsOn (pick a b c d) → (a ≡ false) × (b ≡ false)
on_parts true b c d h = absurd h
on_parts false true c d h = absurd h
on_parts false false c d h = (refl, refl)

over_parts : (a b c d : Bool) → pick a b c d ≡ turn.Overflow → d ≡ true
over_parts true b c d e = absurd (cc)
over_parts false true c d e = absurd (cc)
over_parts false false true d e = absurd (cc)
over_parts false false false true e = refl
over_parts false false false false e = absurd (cc)

module _ (m : Moment) (p : ℕ) where
  own_turn : (a t : Bool) → a ≡ false → (not a && not t) ≡ false → t ≡ true
  own_turn true t e h = absurd (both_ways true e refl)
  own_turn false true e h = refl
  own_turn false false e h = absurd (both_ways true h refl)

  on_turn : IsOn (turn_of m p) → (is_empty (todo m p) ≡ false) × (is_turn (phase m) m p ≡ true)
  on_turn h =
      let parts = on_parts (is_empty (todo m p)) (is_early m p) (waits m p) (overflows m p) h in
      (parts.0, own_turn (is_empty (todo m p)) (is_turn (phase m) m p) parts.0 parts.1)

-- ---- overflows

over_full : (s : List ℤ) (rest : Rest) → rest_overflows s rest ≡ true → is_empty rest ≡ false
over_full s [] e = absurd (both_ways false refl e)
over_full s (head ∷ rest) e = refl

stmt_goes : (s : List ℤ) (stmt : Statement) → stmt_overflows s stmt ≡ true → stmt_waits s stmt ≡ false
stmt_goes s Skip e = refl
stmt_goes s (Assign x f) e = refl
stmt_goes s (If b branch other) e = refl
stmt_goes s (While b body) e = refl
stmt_goes s (Await b body) e = ap not (and_parts _ _ e).0

rest_goes : (s : List ℤ) (rest : Rest) → rest_overflows s rest ≡ true → rest_waits s rest ≡ false
rest_goes s [] e = refl
rest_goes s (head ∷ rest) e = stmt_goes s head.1 e

is_overflow_of : (a b c d : Bool) → a ≡ false → b ≡ false → c ≡ false → d ≡ true → pick a b c d ≡ turn.Overflow
is_overflow_of a b c d e f g h = λ i. pick (e i) (f i) (g i) (h i)

module _ (o : Program) (m : Moment) (shaped : IsShaped o m) (p : ℕ) where
  pub overflow_wrong : turn_of m p ≡ turn.Overflow → (active o m p ≡ true) × (overflows m p ≡ true)
  overflow_wrong e =
      let on = on_turn m p (subst IsOn (sym e) tt) in
      (turn_active o m p shaped on.0 ∙ on.1, over_parts (is_empty (todo m p)) (is_early m p) (waits m p) (overflows m p) e)

  pub wrong_overflow : (active o m p ≡ true) × (overflows m p ≡ true) → turn_of m p ≡ turn.Overflow
  wrong_overflow h =
      let full = over_full m.state (todo m p) h.1 in
      let on : is_turn (phase m) m p ≡ true = sym (turn_active o m p shaped full) ∙ h.0 in
      is_overflow_of (is_empty (todo m p)) (is_early m p) (waits m p) (overflows m p) full
      (ap₂ (λ a t. not a && not t) full on) (rest_goes m.state (todo m p) h.1) h.1

-- ---- whose turn it is

module _ (o : Program) (m : Moment) (shaped : IsShaped o m) where
  main_last : is_last m (length o.processes) ≡ true
  main_last = eq-eqb (length o.processes) (length m.rests) (sym shaped.count)

  other_last : (q : ℕ) → (q ≡ length o.processes → ⊥) → is_last m q ≡ false
  other_last q ne = false_from_ne_true (is_last m q) (λ e. ne (eqb-true q (length m.rests) e ∙ shaped.count))

  -- the others and the main process never have the turn together
  by_phase : (f : Phase) (q : ℕ) → (q ≡ length o.processes → ⊥) → is_turn f m (length o.processes) ≡ not (is_turn f m q)
  by_phase Before q ne = main_last ∙ sym (ap not (other_last q ne))
  by_phase During q ne = ap not main_last ∙ sym (ap (λ b. not (not b)) (other_last q ne))
  by_phase After q ne = main_last ∙ sym (ap not (other_last q ne))

  pub other_turn : (q : ℕ) → (q ≡ length o.processes → ⊥) → is_mains_turn o m ≡ not (is_turn (phase m) m q)
  other_turn = by_phase (phase m)

  has_prologue : is_empty m.prologue ≡ false → is_some o.prologue ≡ true
  has_prologue e = not-false (is_some o.prologue) (false_from_ne_true (not (is_some o.prologue)) (λ h. both_ways (is_empty m.prologue) e (shaped.no_prologue (not-true (is_some o.prologue) h))))

  has_epilogue : is_empty m.epilogue ≡ false → is_some o.epilogue ≡ true
  has_epilogue e = not-false (is_some o.epilogue) (false_from_ne_true (not (is_some o.epilogue)) (λ h. both_ways (is_empty m.epilogue) e (shaped.no_epilogue (not-true (is_some o.epilogue) h))))

  -- where somebody has something left
  abbrev pub by_turn : Bool → ℕ → Bool
  by_turn b p = if b then p == length o.processes else nat_lt p (length o.processes)

  pub active_left : is_finished m ≡ false → (p : ℕ) → active o m p ≡ by_turn (is_mains_turn o m) p
  active_left left p = go (is_empty m.prologue) (all_empty m.rests) refl refl
    where
      n : ℕ
      n = length o.processes

      closing : (e : Bool) → e ≡ true → (is_some o.prologue || e) && p == n || (nat_lt p n && not e) ≡ (p == n)
      closing true h = tests (is_some o.prologue) (p == n) (nat_lt p n)
        where
          tests : (a b c : Bool) → ((a || true) && b || (c && false)) ≡ b
          tests true true true = refl
          tests true true false = refl
          tests true false true = refl
          tests true false false = refl
          tests false true true = refl
          tests false true false = refl
          tests false false true = refl
          tests false false false = refl
      closing false h = absurd (both_ways false refl h)

      go : (a b : Bool) → is_empty m.prologue ≡ a → all_empty m.rests ≡ b → active_in (phase_by a b) o p ≡ by_turn (is_turn (phase_by a b) m n) p
      go false b e f = ap (λ c. (c || is_some o.epilogue) && p == n) (has_prologue e) ∙ sym (ap (λ c. by_turn c p) main_last)
      go true false e f = sym (ap (λ c. by_turn (not c) p) main_last)
      go true true e f =
          closing (is_some o.epilogue) (has_epilogue (false_from_ne_true (is_empty m.epilogue) (λ h. both_ways (is_finished m) left (and_from _ _ e (and_from _ _ f h)))))
          ∙ sym (ap (λ c. by_turn c p) main_last)

  -- the main process is active where its turn has come
  pub main_active : is_finished m ≡ false → active o m (length o.processes) ≡ is_mains_turn o m
  main_active left = active_left left (length o.processes) ∙ go (is_mains_turn o m)
    where
      go : (b : Bool) → by_turn b (length o.processes) ≡ b
      go true = eq-eqb (length o.processes) (length o.processes) refl
      go false = le-ltb (length o.processes) (length o.processes) (omega arith)

  -- where nobody has
  pub active_ended : is_finished m ≡ true → (p : ℕ) → active o m p ≡ (is_main o p || (is_process o p && not (is_some o.epilogue)))
  active_ended ended p =
      let parts = and_parts (is_empty m.prologue) (all_empty m.rests && is_empty m.epilogue) ended in
      let more = and_parts (all_empty m.rests) (is_empty m.epilogue) parts.1 in
      ap (λ f. active_in f o p) (ap₂ phase_by parts.0 more.0)

  ended_parts : is_finished m ≡ true → (is_empty m.prologue ≡ true) × (all_empty m.rests ≡ true) × (is_empty m.epilogue ≡ true)
  ended_parts ended =
      let parts = and_parts (is_empty m.prologue) (all_empty m.rests && is_empty m.epilogue) ended in
      let more = and_parts (all_empty m.rests) (is_empty m.epilogue) parts.1 in
      (parts.0, more.0, more.1)

  past_end : unwrap_or (option_map (λ process. (last_of process).assertion) (slice_get o.processes (length o.processes))) o.post.assertion ≡ o.post.assertion
  past_end =
      ap (λ t. unwrap_or (option_map (λ process. (last_of process).assertion) t) o.post.assertion)
      (slice_get_past o.processes (length o.processes) (omega arith))

  -- the main process is then at the postcondition
  pub current_ended : is_finished m ≡ true → current o m (length o.processes) ≡ o.post.assertion
  current_ended ended =
      let parts = ended_parts ended in
      ap₂ head_or (todo_main m (length o.processes) shaped.count ∙ main_after m parts.0 ∙ nothing m.epilogue parts.2) past_end
    where
      nothing : (rest : Rest) → is_empty rest ≡ true → rest ≡ []
      nothing [] e = refl
      nothing (head ∷ rest) e = absurd (both_ways false refl e)

  -- nobody has a step
  pub ended_next : is_finished m ≡ true → (p : ℕ) → next m p ≡ None
  ended_next ended p =
      let parts = ended_parts ended in
      ap (λ f. next_in f m p) (ap₂ phase_by parts.0 parts.1) ∙ go (is_last m p) m.epilogue parts.2
    where
      go : (b : Bool) (rest : Rest) → is_empty rest ≡ true → (if b then option_map (with_epilogue m) (advance_rest m.state rest) else None) ≡ None
      go false rest e = refl
      go true [] e = refl
      go true (head ∷ rest) e = absurd (both_ways false refl e)

  pub moved_left : (p : ℕ) (k : Moment) → next m p ≡ Some k → is_finished m ≡ false
  moved_left p k e = false_from_ne_true (is_finished m) (λ ended. none-some k (sym (ended_next ended p) ∙ e))

  pub moved_turn : (p : ℕ) (k : Moment) → next m p ≡ Some k → is_turn (phase m) m p ≡ true
  moved_turn p k e =
      not-false (is_turn (phase m) m p)
      (false_from_ne_true (not (is_turn (phase m) m p)) (λ h. none-some k (sym (next_early m p (not-true (is_turn (phase m) m p) h)) ∙ e)))

-- ---- what a turn leaves

pub after_none : (t : Turn) (p : ℕ) (old new : Progress) → IsAfter t p old new → (t ≡ turn.Moved → ⊥) → (next old.moment p ≡ None) × (new ≡ old)
after_none turn.Moved p old new h other = absurd (other refl)
after_none turn.Waits p old new h other = h
after_none turn.Done p old new h other = h
after_none turn.Overflow p old new h other = h
after_none turn.Early p old new h other = h
