-- Where an outline is sound, each reached moment of the erased program is the projection of one of the outline; so
-- what is promised of the outline's runs is promised of the erased program's.
use Rattle.std.proofs.Common.{◌≡◌, ℕ, zero, suc, ◌<◌, ℤ, List, [], ◌∷◌, ◌++◌, map, take, set, length, Bool, true, false, not, ◌&&◌, ◌||◌, ◌==◌, nat_lt, if◌then◌else◌, is_some, Some, None, Option, unwrap_or, option_map, refl, sym, ap, ap₂, ◌∙◌, subst, ⊎_elim, append-nil, arith}
use mir.Syntax.{w64}
use Rattle.std.proofs.Common.{FitsSigned}
use Rattle.std.proofs.lemmas.Bool.{and_from, or_parts, both_ways, cases_lt, cases_eq, false_from_ne_true, eq-eqb, ltb-true}
use Rattle.std.proofs.lemmas.Option.{same_Some, none-some, unwrap_or-slice_get, slice_get_past}
use Rattle.std.proofs.lemmas.List.{length-map}
use Rattle.std.proofs.Math.Seq.{map-set_same, take-append_seam}
use Rattle.std.proofs.lemmas.List.Elements.{All-append}
use Rattle.og_linear.specs.Linear.{IsProper}
use Rattle.og_typed.specs.Syntax.{Sequence, Program, Rest, items}
use Rattle.og_typed.specs.Truth.{truth}
use Rattle.og_typed.specs.Machine.{advance_rest, rest_overflows, Moment, Phase, Before, During, After, phase, phase_by, with_rest, with_prologue, with_epilogue, rest_of, is_last, next_in, next, run_on, IsStart, start_of, IsReached, is_main, is_process, active, active_in, main_rest, todo, overflows, is_empty, all_empty, is_finished}
use Rattle.og_typed.specs.Rule.{IsOutline}
use Rattle.og_typed.specs.Erase.{is_aux_assign, erase_seq, erased, erase_rest, project}
use Rattle.og_typed.proofs.Erasing.{plain_truth, left, erase_items}
use Rattle.og_typed.specs.Stuck.{rest_waits, waits}
use Rattle.og_theorem.specs.NeverStuck.{IsNeverStuck}
use Rattle.og_theorem.specs.Sound.{IsSound, IsSoundErased}
use Rattle.og_theorem.proofs.Invariant.{is_nothing, nothing_left, opened, under_way, ended, rest_set_same, rest_set_other}
use Rattle.og_theorem.proofs.Sound.{Any, active_cases, main_number, todo_main, todo_process, main_before, main_after}
use Rattle.og_theorem.proofs.Projections.{reach_next, is_led, rest_project, erase_led, project_with, project_step, aux_step, empty_erased, IsFit, step_erased, fits_erased, rest_waits_erased, within_full, part_erased, some_erased, before_phase, IsClear, phase_erased, finished_erased}
use Rattle.og_completion.proofs.Shape.{HasShape, shape, long, prologue_fit, epilogue_fit, rest_fit}

module _ (o : Program) (rule : IsOutline o) (sound : IsSound o) where
  -- ---- the outline can run the assignments to auxiliaries that lead a rest, and the projection stays

  -- one part of a moment: its rest, how another rest is put in its place, and when it is its turn
  record IsPart (get : Moment → Rest) (put : Moment → List ℤ × Rest → Moment) (Live : Moment → Type 0) : Type 0 where
    -- the rest of it steps next
    steps : (m : Moment) → IsReached o m → Live m → is_empty (get m) ≡ false → (p : ℕ) × (next m p ≡ option_map (put m) (advance_rest m.state (get m))) × IsFit o.vars m.state (get m)
    -- the rest that is put is read, and it is still its turn
    puts : (m : Moment) (after : List ℤ × Rest) → Live m → is_empty (get m) ≡ false → (get (put m after) ≡ after.1) × Live (put m after)
    -- the projection is the same where nothing of it changes
    same : (m : Moment) (after : List ℤ × Rest) → take o.vars after.0 ≡ take o.vars m.state → erase_rest o.vars after.1 ≡ erase_rest o.vars (get m) → project o.vars (put m after) ≡ project o.vars m

  module _ (get : Moment → Rest) (put : Moment → List ℤ × Rest → Moment) (Live : Moment → Type 0) (part : IsPart get put Live) where
    abbrev Caught : Moment → Moment → Type 0
    Caught m k = IsReached o k × (project o.vars k ≡ project o.vars m) × (is_led o.vars (get k) ≡ false) × Live k

    caught_before : (m k : Moment) → project o.vars k ≡ project o.vars m → (j : Moment) × Caught k j → (j : Moment) × Caught m j
    caught_before m k same there = (there.0, (there.1.0, there.1.1 ∙ same, there.1.2, there.1.3))

    catch_up : (rest : Rest) (m : Moment) → IsReached o m → Live m → get m ≡ rest → (k : Moment) × Caught m k
    catch_up [] m r live e = (m, (r, refl, ap (is_led o.vars) e, live))
    catch_up (head ∷ rest) m r live e = go (is_aux_assign o.vars head.1) refl (λ k. catch_up rest k)
      where
        go : (b : Bool) → is_aux_assign o.vars head.1 ≡ b → ((k : Moment) → IsReached o k → Live k → get k ≡ rest → (j : Moment) × Caught k j) → (k : Moment) × Caught m k
        go false f rec = (m, (r, refl, ap (is_led o.vars) e ∙ f, live))
        go true f rec =
            let full : is_empty (get m) ≡ false = ap is_empty e in
            let can = part.steps m r live full in
            let step = aux_step o.vars m.state head.0 head.1 rest f (sym (ap (rest_overflows m.state) e) ∙ can.2.1) can.2.2 in
            let k : Moment = put m (step.0, rest) in
            let moved : next m can.0 ≡ Some k = can.1 ∙ ap (option_map (put m)) (ap (advance_rest m.state) e ∙ step.1) in
            let after = part.puts m (step.0, rest) live full in
            let stays : project o.vars k ≡ project o.vars m = part.same m (step.0, rest) step.2 (sym (erase_led o.vars head rest f) ∙ ap (erase_rest o.vars) (sym e)) in
            caught_before m k stays (rec k (reach_next o m k can.0 r moved) after.1 after.0)

  -- the prologue
  catch_prologue : (m : Moment) → IsReached o m → (k : Moment) × IsReached o k × (project o.vars k ≡ project o.vars m) × (is_led o.vars k.prologue ≡ false)
  catch_prologue m r =
      let there = catch_up (λ m. m.prologue) with_prologue (λ m. Unit {0}) (record { steps = steps; puts = λ m after live full. (refl, tt); same = same }) m.prologue m r tt refl in
      (there.0, there.1.0, there.1.1, there.1.2)
    where
      steps : (m : Moment) → IsReached o m → Unit {0} → is_empty m.prologue ≡ false → (p : ℕ) × (next m p ≡ option_map (with_prologue m) (advance_rest m.state m.prologue)) × IsFit o.vars m.state m.prologue
      steps m r live full =
          let n = length m.rests in
          let e = before_phase m full in (
            n,
            ap (λ f. next_in f m n) e
                ∙ ap (λ b. if b then option_map (with_prologue m) (advance_rest m.state m.prologue) else None) (eq-eqb n n refl),
            prologue_fit o rule sound m r e,
          )

      same : (m : Moment) (after : List ℤ × Rest) → take o.vars after.0 ≡ take o.vars m.state → erase_rest o.vars after.1 ≡ erase_rest o.vars m.prologue → project o.vars (with_prologue m after) ≡ project o.vars m
      same m after e f = λ i. record { state = e i; prologue = f i; rests = map (erase_rest o.vars) m.rests; epilogue = erase_rest o.vars m.epilogue }

  -- one process, after those before it
  abbrev Behind : ℕ → Moment → Type 0
  Behind n m = (is_empty m.prologue ≡ true) × ((q : ℕ) → q < n → is_led o.vars (rest_of m q) ≡ false)

  catch_process : (p : ℕ) (m : Moment) → IsReached o m → Behind p m → (k : Moment) × IsReached o k × (project o.vars k ≡ project o.vars m) × (is_led o.vars (rest_of k p) ≡ false) × Behind p k
  catch_process p m r live =
      let there = catch_up (λ m. rest_of m p) (λ m. with_rest m p) (Behind p) (record { steps = steps; puts = puts; same = same }) (rest_of m p) m r live refl in
      (there.0, there.1.0, there.1.1, there.1.2, there.1.3)
    where
      steps : (m : Moment) → IsReached o m → Behind p m → is_empty (rest_of m p) ≡ false → (q : ℕ) × (next m q ≡ option_map (with_rest m p) (advance_rest m.state (rest_of m p))) × IsFit o.vars m.state (rest_of m p)
      steps m r live full =
          let some : all_empty m.rests ≡ false = false_from_ne_true (all_empty m.rests) (λ all. both_ways (is_empty (rest_of m p)) full (ap is_empty (nothing_left m.rests p all))) in
          let e : phase m ≡ During = ap₂ phase_by live.0 some in
          (p, ap (λ f. next_in f m p) e, rest_fit o rule sound m r e p)

      puts : (m : Moment) (after : List ℤ × Rest) → Behind p m → is_empty (rest_of m p) ≡ false → (rest_of (with_rest m p after) p ≡ after.1) × Behind p (with_rest m p after)
      puts m after live full = (
        rest_set_same Any m p after (within_full m p full),
        (
          live.0,
          λ q lt. ap (is_led o.vars) (rest_set_other Any m p q after (λ e. absurd (omega (arith, lt, e)))) ∙ live.1 q lt,
        ),
      )

      same : (m : Moment) (after : List ℤ × Rest) → take o.vars after.0 ≡ take o.vars m.state → erase_rest o.vars after.1 ≡ erase_rest o.vars (rest_of m p) → project o.vars (with_rest m p after) ≡ project o.vars m
      same m after e f =
          let rests : map (erase_rest o.vars) (set m.rests p after.1) ≡ map (erase_rest o.vars) m.rests =
          map-set_same (erase_rest o.vars) m.rests p after.1 [] (f ∙ ap (erase_rest o.vars) (unwrap_or-slice_get m.rests p [])) in
          λ i. record { state = e i; prologue = erase_rest o.vars m.prologue; rests = rests i; epilogue = erase_rest o.vars m.epilogue }

  catch_all : (n : ℕ) (m : Moment) → IsReached o m → is_empty m.prologue ≡ true → (k : Moment) × IsReached o k × (project o.vars k ≡ project o.vars m) × Behind n k
  catch_all zero m r e = (m, r, refl, (e, λ p lt. absurd (omega arith)))
  catch_all (suc n) m r e =
      let all = catch_all n m r e in
      let one = catch_process n all.0 all.1 all.3 in (
        one.0,
        one.1,
        one.2 ∙ all.2,
        (
          one.4.0,
          λ p lt. ⊎_elim
              (λ same. subst (λ q. is_led o.vars (rest_of one.0 q) ≡ false) (sym same) one.3)
              (λ ne. one.4.1 p (omega (arith, ne)))
              (cases_eq p n),
        ),
      )

  -- the epilogue
  abbrev Over : Moment → Type 0
  Over m = (is_empty m.prologue ≡ true) × (all_empty m.rests ≡ true)

  catch_epilogue : (m : Moment) → IsReached o m → Over m → (k : Moment) × IsReached o k × (project o.vars k ≡ project o.vars m) × (is_led o.vars k.epilogue ≡ false) × Over k
  catch_epilogue m r live =
      let there = catch_up (λ m. m.epilogue) with_epilogue Over (record { steps = steps; puts = λ m after live full. (refl, live); same = same }) m.epilogue m r live refl in
      (there.0, there.1.0, there.1.1, there.1.2, there.1.3)
    where
      steps : (m : Moment) → IsReached o m → Over m → is_empty m.epilogue ≡ false → (p : ℕ) × (next m p ≡ option_map (with_epilogue m) (advance_rest m.state m.epilogue)) × IsFit o.vars m.state m.epilogue
      steps m r live full =
          let n = length m.rests in
          let e : phase m ≡ After = ap₂ phase_by live.0 live.1 in (
            n,
            ap (λ f. next_in f m n) e
                ∙ ap (λ b. if b then option_map (with_epilogue m) (advance_rest m.state m.epilogue) else None) (eq-eqb n n refl),
            epilogue_fit o rule sound m r e,
          )

      same : (m : Moment) (after : List ℤ × Rest) → take o.vars after.0 ≡ take o.vars m.state → erase_rest o.vars after.1 ≡ erase_rest o.vars m.epilogue → project o.vars (with_epilogue m after) ≡ project o.vars m
      same m after e f = λ i. record { state = e i; prologue = erase_rest o.vars m.prologue; rests = map (erase_rest o.vars) m.rests; epilogue = f i }

  -- all that may step, in every phase
  abbrev Settled : Moment → Moment → Type 0
  Settled m k = IsReached o k × (project o.vars k ≡ project o.vars m) × IsClear o.vars k

  settle_from : (m k : Moment) → IsReached o k → project o.vars k ≡ project o.vars m → Behind (length o.processes) k → (j : Moment) × Settled m j
  settle_from m k r same behind = go (all_empty k.rests) refl
    where
      free : (p : ℕ) → is_led o.vars (rest_of k p) ≡ false
      free p =
          ⊎_elim
          (behind.1 p)
          (λ past. ap (λ t. is_led o.vars (unwrap_or t [])) (slice_get_past k.rests p (omega (arith, past, (shape o rule k r).count))))
          (cases_lt p (length o.processes))

      go : (b : Bool) → all_empty k.rests ≡ b → (j : Moment) × Settled m j
      go false e = (
        k,
        (r, same, (ap (is_led o.vars) (is_nothing k.prologue behind.0), (λ _. free), (λ _ f. absurd (both_ways (all_empty k.rests) e f)))),
      )
      go true e =
          let last = catch_epilogue k r (behind.0, e) in
          let j = last.0 in (
            j,
            (
              last.1,
              last.2 ∙ same,
              (
                ap (is_led o.vars) (is_nothing j.prologue last.4.0),
                (λ _ p. ap (is_led o.vars) (nothing_left j.rests p last.4.1)),
                (λ _ _. last.3),
              ),
            ),
          )

  settle_rests : (m : Moment) → IsReached o m → is_empty m.prologue ≡ true → (k : Moment) × Settled m k
  settle_rests m r begun = let all = catch_all (length o.processes) m r begun in settle_from m all.0 all.1 all.2 all.3

  settle : (m : Moment) → IsReached o m → (k : Moment) × Settled m k
  settle m r = let first = catch_prologue m r in go first.0 first.1 first.2 first.3 (is_empty first.0.prologue) refl
    where
      go : (k : Moment) → IsReached o k → project o.vars k ≡ project o.vars m → is_led o.vars k.prologue ≡ false → (b : Bool) → is_empty k.prologue ≡ b → (j : Moment) × Settled m j
      go k rk same free false e = (
        k,
        (rk, same, (free, (λ f. absurd (both_ways (is_empty k.prologue) e f)), (λ f _. absurd (both_ways (is_empty k.prologue) e f)))),
      )
      go k rk same free true e =
          let there = settle_rests k rk e in
          (there.0, (there.1.0, there.1.1 ∙ same, there.1.2))

  -- then a step of the erased program is a step of the outline
  next_erased : (m : Moment) (p : ℕ) → IsReached o m → IsClear o.vars m → next (project o.vars m) p ≡ option_map (project o.vars) (next m p)
  next_erased m p r c = ap (λ f. next_in f (project o.vars m) p) (phase_erased o.vars m c) ∙ go (phase m) refl
    where
      main : (erased_put put : List ℤ × Rest → Moment) (rest : Rest) → ((after : List ℤ × Rest) → erased_put (left o.vars after) ≡ project o.vars (put after)) → is_led o.vars rest ≡ false → IsFit o.vars m.state rest → (b : Bool) → (if b then option_map erased_put (advance_rest (take o.vars m.state) (erase_rest o.vars rest)) else None) ≡ option_map (project o.vars) (if b then option_map put (advance_rest m.state rest) else None)
      main erased_put put rest same free fit false = refl
      main erased_put put rest same free fit true =
          ap (option_map erased_put) (step_erased o.vars m.state rest free fit)
          ∙ project_step o.vars put erased_put same (advance_rest m.state rest)

      number : length (project o.vars m).rests ≡ length m.rests
      number = length-map m.rests (erase_rest o.vars)

      go : (f : Phase) → phase m ≡ f → next_in f (project o.vars m) p ≡ option_map (project o.vars) (next_in f m p)
      go Before e =
          ap (λ n. if p == n then option_map (with_prologue (project o.vars m)) (advance_rest (take o.vars m.state) (erase_rest o.vars m.prologue)) else None) number
          ∙ main (with_prologue (project o.vars m)) (with_prologue m) m.prologue (λ after. refl) c.0 (prologue_fit o rule sound m r e) (is_last m p)
      go During e =
          ap (λ t. option_map (with_rest (project o.vars m) p) (advance_rest (take o.vars m.state) t)) (rest_project o.vars m p)
          ∙ main (with_rest (project o.vars m) p) (with_rest m p) (rest_of m p) (project_with o.vars m p) (c.1 (under_way m e).0 p) (rest_fit o rule sound m r e p) true
      go After e =
          ap (λ n. if p == n then option_map (with_epilogue (project o.vars m)) (advance_rest (take o.vars m.state) (erase_rest o.vars m.epilogue)) else None) number
          ∙ main (with_epilogue (project o.vars m)) (with_epilogue m) m.epilogue (λ after. refl) (c.2 (ended m e).0 (ended m e).1) (epilogue_fit o rule sound m r e) (is_last m p)

  simulate : (run : List ℕ) (m e : Moment) → IsReached o m → run_on run (Some (project o.vars m)) ≡ Some e → (k : Moment) × IsReached o k × (project o.vars k ≡ e)
  simulate [] m e r h = (m, r, same_Some (project o.vars m) e h)
  simulate (p ∷ run) m e r h =
      let there = settle m r in
      let k = there.0 in
      let again : run_on run (option_map (project o.vars) (next k p)) ≡ Some e =
      ap (run_on run) (sym (next_erased k p there.1.0 there.1.2) ∙ ap (λ j. next j p) there.1.1) ∙ h in
      go k there.1.0 (next k p) refl again (λ j. simulate run j e)
    where
      go : (k : Moment) → IsReached o k → (n : Option Moment) → next k p ≡ n → run_on run (option_map (project o.vars) n) ≡ Some e → ((j : Moment) → IsReached o j → run_on run (Some (project o.vars j)) ≡ Some e → (i : Moment) × IsReached o i × (project o.vars i ≡ e)) → (i : Moment) × IsReached o i × (project o.vars i ≡ e)
      go k rk None f g rec = absurd (none-some e g)
      go k rk (Some j) f g rec = rec j (reach_next o k j p rk f) g

  start_rests : (ps : List Sequence) → map (erase_rest o.vars) (map items ps) ≡ map items (map (erase_seq o.vars) ps)
  start_rests [] = refl
  start_rests (p ∷ ps) = ap₂ ◌∷◌ (sym (erase_items o.vars p)) (start_rests ps)

  start_erased : (values : List ℤ) → IsStart (erased o) values → IsStart o values × (project o.vars (start_of o values) ≡ start_of (erased o) values)
  start_erased values start =
      let whole = values ++ o.aux_values in
      let front : take o.vars whole ≡ values = ap (λ n. take n whole) (sym start.0) ∙ take-append_seam values o.aux_values in
      let proper : IsProper values = subst IsProper (append-nil values) start.1 in
      let pre : truth o.pre.assertion whole ≡ true =
      sym (plain_truth o.vars o.pre.assertion whole rule.pre_plain) ∙ ap (truth o.pre.assertion) (front ∙ sym (append-nil values)) ∙ start.2 in (
        (start.0, All-append (FitsSigned w64) values o.aux_values proper rule.aux_proper, pre),
        λ i. record {
          state = (front ∙ sym (append-nil values)) i;
          prologue = part_erased o.vars o.prologue i;
          rests = start_rests o.processes i;
          epilogue = part_erased o.vars o.epilogue i;
        },
      )

  projected : (e : Moment) → IsReached (erased o) e → (m : Moment) × IsReached o m × (project o.vars m ≡ e)
  projected e r =
      let start = start_erased r.0 r.2 in
      simulate r.1 (start_of o r.0) e (r.0, [], start.0, refl) (ap (λ m. run_on r.1 (Some m)) start.1 ∙ r.3)

  -- a reached moment in which all that may step is led by a statement that stays
  clear : (e : Moment) → IsReached (erased o) e → (k : Moment) × IsReached o k × (project o.vars k ≡ e) × IsClear o.vars k
  clear e r =
      let at = projected e r in
      let there = settle at.0 at.1 in
      (there.0, there.1.0, there.1.1 ∙ at.2, there.1.2)

  -- ---- the part active in both

  main_same : (p : ℕ) → is_main (erased o) p ≡ is_main o p
  main_same p = λ i. (some_erased o.vars o.prologue i || some_erased o.vars o.epilogue i) && p == length-map o.processes (erase_seq o.vars) i

  process_same : (p : ℕ) → is_process (erased o) p ≡ is_process o p
  process_same p = ap (nat_lt p) (length-map o.processes (erase_seq o.vars))

  active_same : (f : Phase) (p : ℕ) → active_in f (erased o) p ≡ active_in f o p
  active_same Before p = main_same p
  active_same During p = process_same p
  active_same After p = λ i. main_same p i || (process_same p i && not (some_erased o.vars o.epilogue i))

  active_erased : (k : Moment) (p : ℕ) → IsClear o.vars k → active (erased o) (project o.vars k) p ≡ active o k p
  active_erased k p c = ap (λ f. active_in f (erased o) p) (phase_erased o.vars k c) ∙ active_same (phase k) p

  numbered : (k : Moment) → IsReached o k → length (project o.vars k).rests ≡ length o.processes
  numbered k r = length-map k.rests (erase_rest o.vars) ∙ (shape o rule k r).count

  todo_erased : (k : Moment) → IsReached o k → (p : ℕ) → is_process o p ≡ true → todo (project o.vars k) p ≡ erase_rest o.vars (rest_of k p)
  todo_erased k r p h =
      todo_process (project o.vars k) p (subst (λ n. p < n) (sym (numbered k r)) (ltb-true p (length o.processes) h))
      ∙ rest_project o.vars k p

  overflows_erased_never : (k : Moment) → IsReached o k → IsClear o.vars k → (p : ℕ) → active o k p ≡ true → overflows (project o.vars k) p ≡ false
  overflows_erased_never k r c p live = ⊎_elim opening (⊎_elim between (⊎_elim closing over)) (active_cases o k p (phase k) live)
    where
      goal : (rest : Rest) → todo (project o.vars k) p ≡ erase_rest o.vars rest → is_led o.vars rest ≡ false → IsFit o.vars k.state rest → overflows (project o.vars k) p ≡ false
      goal rest e free fit = ap (rest_overflows (take o.vars k.state)) e ∙ fits_erased o.vars k.state rest free fit

      main_todo : is_main o p ≡ true → todo (project o.vars k) p ≡ main_rest (project o.vars k)
      main_todo h = todo_main (project o.vars k) p (numbered k r ∙ sym (main_number o p h))

      opening : (phase k ≡ Before) × (is_main o p ≡ true) → overflows (project o.vars k) p ≡ false
      opening h =
          goal k.prologue (main_todo h.1 ∙ main_before (project o.vars k) (empty_erased o.vars k.prologue c.0 ∙ opened k h.0)) c.0 (prologue_fit o rule sound k r h.0)

      between : (phase k ≡ During) × (is_process o p ≡ true) → overflows (project o.vars k) p ≡ false
      between h = goal (rest_of k p) (todo_erased k r p h.1) (c.1 (under_way k h.0).0 p) (rest_fit o rule sound k r h.0 p)

      closing : (phase k ≡ After) × (is_main o p ≡ true) → overflows (project o.vars k) p ≡ false
      closing h =
          let all = ended k h.0 in
          goal k.epilogue (main_todo h.1 ∙ main_after (project o.vars k) (empty_erased o.vars k.prologue c.0 ∙ all.0)) (c.2 all.0 all.1) (epilogue_fit o rule sound k r h.0)

      over : (phase k ≡ After) × (is_process o p ≡ true) × (is_some o.epilogue ≡ false) → overflows (project o.vars k) p ≡ false
      over h = goal [] (todo_erased k r p h.1 ∙ ap (erase_rest o.vars) (nothing_left k.rests p (ended k h.0).1)) refl (tt, refl, long o rule k r)

  pub erased_sound : IsSoundErased o
  erased_sound = record {
    projected = projected;
    never_overflows = λ e r p live.
        let c = clear e r in let k = c.0 in
        ap (λ j. overflows j p) (sym c.2)
        ∙ overflows_erased_never k c.1 c.3 p (sym (active_erased k p c.3) ∙ ap (λ j. active (erased o) j p) c.2 ∙ live);
    post_at_end = λ e r done.
        let c = clear e r in let k = c.0 in
        ap (λ j. truth o.post.assertion j.state) (sym c.2)
        ∙ plain_truth o.vars o.post.assertion k.state rule.post_plain
        ∙ sound.post_at_end k c.1 (sym (finished_erased o.vars k c.3) ∙ ap is_finished c.2 ∙ done);
  }

  -- where the main process is not active and something is left, the others are under way
  left_during : (k : Moment) → IsReached o k → is_finished k ≡ false → active o k (length o.processes) ≡ false → phase k ≡ During
  left_during k r unfinished idle = go (phase k) refl idle
    where
      shaped : HasShape o k
      shaped = shape o rule k r

      no_main : is_main o (length o.processes) ≡ false → (is_some o.prologue ≡ false) × (is_some o.epilogue ≡ false)
      no_main none =
          let n = length o.processes in
          or_parts _ _ (false_from_ne_true (is_some o.prologue || is_some o.epilogue) (λ h. both_ways (is_main o n) none (and_from _ _ h (eq-eqb n n refl))))

      go : (f : Phase) → phase k ≡ f → active_in f o (length o.processes) ≡ false → phase k ≡ During
      go Before e idle = absurd (both_ways (is_empty k.prologue) (opened k e) (shaped.no_prologue (no_main idle).0))
      go During e idle = e
      go After e idle =
          let all = ended k e in
          absurd (both_ways (is_finished k) unfinished (and_from _ _ all.0 (and_from _ _ all.1 (shaped.no_epilogue (no_main (or_parts _ _ idle).0).1))))

  pub erased_never_stuck : IsNeverStuck o → IsNeverStuck (erased o)
  erased_never_stuck never e r stuck =
      let c = clear e r in let k = c.0 in
      let n = length o.processes in
      let unfinished : is_finished k ≡ false = sym (finished_erased o.vars k c.3) ∙ ap is_finished c.2 ∙ stuck.0 in
      let idle : active o k n ≡ false =
      sym (active_erased k n c.3) ∙ ap (λ j. active (erased o) j n) c.2 ∙ ap (active (erased o) e) (sym (length-map o.processes (erase_seq o.vars))) ∙ stuck.1 in
      let during = left_during k c.1 unfinished idle in
      never k c.1 (
        unfinished,
        idle,
        λ p h full.
            let free = c.3.1 (under_way k during).0 p in
            let rest = rest_of k p in
            let full' : is_empty (rest_of e p) ≡ false =
            ap (λ j. is_empty (rest_of j p)) (sym c.2) ∙ ap is_empty (rest_project o.vars k p) ∙ empty_erased o.vars rest free ∙ full in
            ap (rest_waits k.state) (todo_process k p (within_full k p full))
            ∙ sym (rest_waits_erased o.vars k.state rest free (rest_fit o rule sound k c.1 during p))
            ∙ ap (rest_waits (take o.vars k.state)) (sym (todo_erased k c.1 p h))
            ∙ ap (λ j. waits j p) c.2
            ∙ stuck.2 p (process_same p ∙ h) full',
      )
