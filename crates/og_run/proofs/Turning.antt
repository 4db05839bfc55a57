-- From the stepper's turn to the board's.
use Rattle.std.proofs.Common.{◌≡◌, ℕ, ◌+◌, ◌<◌, ℤ, List, [], ◌∷◌, length, Bool, true, false, not, ◌&&◌, ◌||◌, if◌then◌else◌, Option, Some, None, is_some, unwrap_or, refl, sym, ap, ◌∙◌, arith, ⊎_elim}
use Rattle.std.proofs.lemmas.Bool.{both_ways, not-true, eqb-true}
use Rattle.std.proofs.lemmas.Option.{slice_get_cases}
use Rattle.og_typed.specs.Syntax.{Program, Rest, Statement, Skip, Assign, If, While, Await}
use Rattle.og_typed.specs.Machine.{Moment, all_fit, rest_of, is_empty, is_last, main_rest, todo, stmt_overflows, rest_overflows, overflows}
use Rattle.og_typed.specs.Turns.{is_early}
use Rattle.og_typed.specs.Stuck.{stmt_waits, rest_waits, waits}
use Rattle.og_typed.proofs.Turns.{IsShaped}
use Rattle.og_step.specs.Turns.{turn_of}
use Rattle.og_step.specs.declared.turn.Turn.{Turn}
use Rattle.og_step.specs.declared.turn.Turn.TheVariants as turn
use Rattle.og_run.specs.Runs.{Given}
use Rattle.og_run.specs.Histories.{process_count}
use Rattle.og_run.specs.Turns.{HasLeft, HasRoom, IsTurn, IsTurnAt, Answers}
use Rattle.og_run.specs.declared.turn.RunTurn.{RunTurn}
use Rattle.og_run.specs.declared.turn.RunTurn.TheVariants.{Overflow, Done, Early, Waits, Moved}

-- a guard that is false overflows nowhere
stmt_fits : (s : List ℤ) (stmt : Statement) → stmt_waits s stmt ≡ true → stmt_overflows s stmt ≡ false
stmt_fits s Skip e = refl
stmt_fits s (Assign x f) e = absurd (both_ways false refl e)
stmt_fits s (If b branch other) e = refl
stmt_fits s (While b body) e = refl
stmt_fits s (Await b body) e = ap (λ t. t && not (all_fit body s)) (not-true _ e)

rest_fits : (s : List ℤ) (rest : Rest) → rest_waits s rest ≡ true → rest_overflows s rest ≡ false
rest_fits s [] e = refl
rest_fits s (head ∷ rest) e = stmt_fits s head.1 e

abbrev pick : Bool → Bool → Bool → Bool → Turn
pick a b c d =
    if a then turn.Done else (if b then turn.Early else (if c then turn.Waits else (if d then turn.Overflow else turn.Moved)))

done_parts : (a b c d : Bool) → pick a b c d ≡ turn.Done → a ≡ true
done_parts true b c d e = refl
done_parts false true c d e = absurd (cc)
done_parts false false true d e = absurd (cc)
done_parts false false false true e = absurd (cc)
done_parts false false false false e = absurd (cc)

early_parts : (a b c d : Bool) → pick a b c d ≡ turn.Early → b ≡ true
early_parts true b c d e = absurd (cc)
early_parts false true c d e = refl
early_parts false false true d e = absurd (cc)
early_parts false false false true e = absurd (cc)
early_parts false false false false e = absurd (cc)

waits_parts : (a b c d : Bool) → pick a b c d ≡ turn.Waits → (b ≡ false) × (c ≡ true)
waits_parts true b c d e = absurd (cc)
waits_parts false true c d e = absurd (cc)
waits_parts false false true d e = (refl, refl)
waits_parts false false false true e = absurd (cc)
waits_parts false false false false e = absurd (cc)

over_parts : (a b c d : Bool) → pick a b c d ≡ turn.Overflow → (b ≡ false) × (d ≡ true)
over_parts true b c d e = absurd (cc)
over_parts false true c d e = absurd (cc)
over_parts false false true d e = absurd (cc)
over_parts false false false true e = (refl, refl)
over_parts false false false false e = absurd (cc)

moved_parts : (a b c d : Bool) → pick a b c d ≡ turn.Moved → (b ≡ false) × (c ≡ false) × (d ≡ false)
moved_parts true b c d e = absurd (cc)
moved_parts false true c d e = absurd (cc)
moved_parts false false true d e = absurd (cc)
moved_parts false false false true e = absurd (cc)
moved_parts false false false false e = (refl, refl, refl)

-- the board's word for the stepper's turn
abbrev pub run_turn : Turn → RunTurn
run_turn turn.Moved = Moved
run_turn turn.Waits = Waits
run_turn turn.Done = Done
run_turn turn.Overflow = Overflow
run_turn turn.Early = Early

pub turned : (g : Given) (h : List ℕ) (m : Moment) (p : ℕ) (t : Turn) → HasRoom g h m p → t ≡ turn_of m p → IsTurnAt g h m p (run_turn t)
turned g h m p turn.Moved room e =
    let parts = moved_parts (is_empty (todo m p)) (is_early m p) (waits m p) (overflows m p) (sym e) in ((room, parts.0), parts.2, parts.1)
turned g h m p turn.Waits room e =
    let parts = waits_parts (is_empty (todo m p)) (is_early m p) (waits m p) (overflows m p) (sym e) in
    ((room, parts.0), rest_fits m.state (todo m p) parts.1, parts.1)
turned g h m p turn.Done room e = done_parts (is_empty (todo m p)) (is_early m p) (waits m p) (overflows m p) (sym e)
turned g h m p turn.Overflow room e =
    let parts = over_parts (is_empty (todo m p)) (is_early m p) (waits m p) (overflows m p) (sym e) in ((room, parts.0), parts.1)
turned g h m p turn.Early room e =
    (room, early_parts (is_empty (todo m p)) (is_early m p) (waits m p) (overflows m p) (sym e))

pub answers_free : (o : Option ℕ) (g : Given) (h : List ℕ) (p : ℕ) (t : RunTurn) → is_some o ≡ false → IsTurn g h p t → Answers (is_some o) g h p t
answers_free None g h p t e is = is
answers_free (Some q) g h p t e is = absurd (both_ways true e refl)

pub answers_halted : (o : Option ℕ) (g : Given) (h : List ℕ) (p : ℕ) → is_some o ≡ true → Answers (is_some o) g h p Overflow
answers_halted None g h p e = absurd (both_ways false refl e)
answers_halted (Some q) g h p e = refl

-- what has something left is a process, or the main process
pub left_inside : (o : Program) (m : Moment) (p : ℕ) → IsShaped o m → HasLeft m p → p < process_count o
left_inside o m p shaped left = by_number (is_last m p) refl
  where
    none_left : (a b : Rest) → is_empty (if is_empty a then b else a) ≡ false → is_empty a ≡ true → is_empty b ≡ true → ⊥
    none_left [] b f e g = both_ways (is_empty b) f g
    none_left (head ∷ a) b f e g = both_ways false refl e

    main : (a b : Bool) → is_some o.prologue ≡ a → is_some o.epilogue ≡ b → is_last m p ≡ true → p < length o.processes + (if a || b then 1 else 0)
    main true b e f l = omega (arith, eqb-true p (length m.rests) l, shaped.count)
    main false true e f l = omega (arith, eqb-true p (length m.rests) l, shaped.count)
    main false false e f l =
        absurd (none_left m.prologue m.epilogue (sym (ap (λ b. is_empty (if b then main_rest m else rest_of m p)) l) ∙ left) (shaped.no_prologue e) (shaped.no_epilogue f))

    by_number : (b : Bool) → is_last m p ≡ b → p < process_count o
    by_number true l = main (is_some o.prologue) (is_some o.epilogue) refl refl l
    by_number false l =
        ⊎_elim (λ here. omega (arith, here.1, shaped.count))
        (λ out. absurd (both_ways (is_empty (rest_of m p)) (sym (ap (λ b. is_empty (if b then main_rest m else rest_of m p)) l) ∙ left) (ap (λ r. is_empty (unwrap_or r [])) out.1))) (slice_get_cases m.rests p).1
