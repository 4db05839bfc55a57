-- What has come to an end stays at its end, whatever the others do.
use Rattle.std.proofs.Common.{◌≡◌, ◌≢◌, ℕ, ◌<◌, ℤ, List, [], ◌∷◌, ◌++◌, length, length-set, Bool, true, false, ◌==◌, if◌then◌else◌, Option, Some, None, is_some, unwrap_or, option_map, refl, sym, ap, ◌∙◌, subst, ⊎_elim, arith}
use Rattle.std.proofs.lemmas.Bool.{both_ways, not-true, eqb-true, eq-eqb, and_from, false_from_ne_true, lt-ltb}
use Rattle.std.proofs.lemmas.Bool.Decides.{nat_tests}
use Rattle.std.proofs.lemmas.Option.{same_Some, none-some, slice_get_cases}
use Rattle.og_typed.specs.Syntax.{Formula, Program, Rest, Statement, Skip, Assign, If, While, Await}
use Rattle.og_typed.specs.Machine.{attempt, advance, advance_rest, Moment, Phase, Before, During, After, phase, with_rest, with_prologue, with_epilogue, rest_of, is_empty, all_empty, is_last, next, next_in, run_on, start_of, main_rest, todo, active, is_finished}
use Rattle.og_typed.specs.Turns.{is_turn}
use Rattle.og_typed.specs.Stuck.{stmt_waits, rest_waits, waits, IsStuck}
use Rattle.og_typed.proofs.Turns.{IsShaped, next_turn, next_early, turn_active}
use Rattle.og_theorem.proofs.Sound.{all_empty_from}
use Rattle.og_run.specs.Runs.{Given, moment_after}
use Rattle.og_run.specs.Histories.{process_count, moves_of}
use Rattle.og_run.proofs.Lists.{slice_get_set_other}
use Rattle.og_run.proofs.Histories.{run_append, run_none, shaped_after}

-- ---- a process that has nothing left

same_todo : (m k : Moment) (p : ℕ) → length k.rests ≡ length m.rests → main_rest k ≡ main_rest m → rest_of k p ≡ rest_of m p → todo k p ≡ todo m p
same_todo m k p count main rest = λ i. if p == count i then main i else rest i

off_last : (m k : Moment) (p : ℕ) → length k.rests ≡ length m.rests → is_last m p ≡ false → rest_of k p ≡ rest_of m p → todo k p ≡ todo m p
off_last m k p count out rest =
    ap (λ b. if b then main_rest k else rest_of k p) (ap (λ n. p == n) count ∙ out) ∙ (rest ∙ sym (ap (λ b. if b then main_rest m else rest_of m p) out))

not_both : (m : Moment) (p q : ℕ) → q ≢ p → is_last m q ≡ true → is_last m p ≡ false
not_both m p q apart l =
    false_from_ne_true (is_last m p) (λ h. apart (eqb-true q (length m.rests) l ∙ sym (eqb-true p (length m.rests) h)))

-- a step of another process leaves what p has to do
step_keeps : (m k : Moment) (p q : ℕ) → q ≢ p → next m q ≡ Some k → todo k p ≡ todo m p
step_keeps m k p q apart = go (phase m)
  where
    opening : (b : Bool) → is_last m q ≡ b → (a : Option (List ℤ × Rest)) → (if b then option_map (with_prologue m) a else None) ≡ Some k → todo k p ≡ todo m p
    opening false l a e = absurd (none-some k e)
    opening true l None e = absurd (none-some k e)
    opening true l (Some after) e =
        subst (λ z. todo z p ≡ todo m p) (same_Some (with_prologue m after) k e) (off_last m (with_prologue m after) p refl (not_both m p q apart l) refl)

    closing : (b : Bool) → is_last m q ≡ b → (a : Option (List ℤ × Rest)) → (if b then option_map (with_epilogue m) a else None) ≡ Some k → todo k p ≡ todo m p
    closing false l a e = absurd (none-some k e)
    closing true l None e = absurd (none-some k e)
    closing true l (Some after) e =
        subst (λ z. todo z p ≡ todo m p) (same_Some (with_epilogue m after) k e) (off_last m (with_epilogue m after) p refl (not_both m p q apart l) refl)

    between : (a : Option (List ℤ × Rest)) → option_map (with_rest m q) a ≡ Some k → todo k p ≡ todo m p
    between None e = absurd (none-some k e)
    between (Some after) e =
        subst (λ z. todo z p ≡ todo m p) (same_Some (with_rest m q after) k e)
        (same_todo m (with_rest m q after) p (length-set m.rests q after.1) refl (ap (λ r. unwrap_or r []) (slice_get_set_other m.rests q p after.1 (λ s. apart (sym s)))))

    go : (f : Phase) → next_in f m q ≡ Some k → todo k p ≡ todo m p
    go Before e = opening (is_last m q) refl (advance_rest m.state m.prologue) e
    go During e = between (advance_rest m.state (rest_of m q)) e
    go After e = closing (is_last m q) refl (advance_rest m.state m.epilogue) e

run_keeps : (p : ℕ) (xs : List ℕ) (a : Option Moment) (m k : Moment) → a ≡ Some m → moves_of p xs ≡ 0 → run_on xs a ≡ Some k → todo k p ≡ todo m p
run_keeps p xs None m k s none e = absurd (none-some m s)
run_keeps p [] (Some z) m k s none e = ap (λ z. todo z p) (same_Some k m (sym e ∙ s))
run_keeps p (x ∷ xs) (Some z) m k s none e = more (next z x) refl (λ y r. run_keeps p xs (Some y) y k refl rest r)
  where
    apart : x ≢ p
    apart same = let one = eq-eqb x p same in absurd (grind (arith, nat_tests))

    rest : moves_of p xs ≡ 0
    rest = grind (arith, nat_tests)

    more : (b : Option Moment) → next z x ≡ b → ((y : Moment) → run_on xs (Some y) ≡ Some k → todo k p ≡ todo y p) → todo k p ≡ todo m p
    more None f ind = absurd (none-some k (sym (run_none xs) ∙ (ap (run_on xs) (sym f) ∙ e)))
    more (Some y) f ind =
        ind y (ap (run_on xs) (sym f) ∙ e) ∙ (step_keeps z y p x apart f ∙ ap (λ z. todo z p) (same_Some z m s))

later : (given other : Given) (h heard rest : List ℕ) (m k : Moment) → other ≡ given → moment_after other heard ≡ Some m → moment_after given h ≡ Some k → h ≡ heard ++ rest → run_on rest (Some m) ≡ Some k
later given other h heard rest m k same first last is =
    ap (run_on rest) (sym first)
    ∙ (sym (run_append heard rest (Some (start_of other.outline other.values)))
    ∙ (ap (λ (g : Given). moment_after g (heard ++ rest)) same ∙ (ap (moment_after given) (sym is) ∙ last)))

pub stays_done : (given other : Given) (h heard rest : List ℕ) (p : ℕ) (m k : Moment) → other ≡ given → moment_after other heard ≡ Some m → moment_after given h ≡ Some k → h ≡ heard ++ rest → moves_of p rest ≡ 0 → is_empty (todo m p) ≡ true → is_empty (todo k p) ≡ true
stays_done given other h heard rest p m k same first last is none done =
    ap is_empty (run_keeps p rest (Some m) m k refl none (later given other h heard rest m k same first last is)) ∙ done

-- ---- a stuck moment has no next one

stmt_stops : (s : List ℤ) (before : Formula) (stmt : Statement) (rest : Rest) → stmt_waits s stmt ≡ true → advance s before stmt rest ≡ None
stmt_stops s before Skip rest e = absurd (both_ways false refl e)
stmt_stops s before (Assign x f) rest e = absurd (both_ways false refl e)
stmt_stops s before (If b branch other) rest e = absurd (both_ways false refl e)
stmt_stops s before (While b body) rest e = absurd (both_ways false refl e)
stmt_stops s before (Await b body) rest e = ap (λ t. if t then attempt body s rest else None) (not-true _ e)

rest_stops : (s : List ℤ) (rest : Rest) → rest_waits s rest ≡ true → advance_rest s rest ≡ None
rest_stops s [] e = refl
rest_stops s (head ∷ rest) e = stmt_stops s head.0 head.1 rest e

none_stops : (s : List ℤ) (rest : Rest) → is_empty rest ≡ true → advance_rest s rest ≡ None
none_stops s [] e = refl
none_stops s (head ∷ rest) e = absurd (both_ways false refl e)

stuck_stops : (o : Program) (m : Moment) (q : ℕ) → IsShaped o m → IsStuck o m → next m q ≡ None
stuck_stops o m q shaped stuck = by_turn (is_turn (phase m) m q) refl
  where
    stops : is_turn (phase m) m q ≡ true → advance_rest m.state (todo m q) ≡ None → next m q ≡ None
    stops t e = next_turn m q t ∙ ap (option_map _) e

    waits_there : is_turn (phase m) m q ≡ true → is_empty (todo m q) ≡ false → (b : Bool) → is_last m q ≡ b → waits m q ≡ true
    waits_there t left true l =
        let main : q ≡ length o.processes = eqb-true q (length m.rests) l ∙ shaped.count in
        absurd (both_ways (active o m q) (ap (active o m) main ∙ stuck.1) (turn_active o m q shaped left ∙ t))
    waits_there t left false l =
        let full : is_empty (rest_of m q) ≡ false = sym (ap (λ b. is_empty (if b then main_rest m else rest_of m q)) l) ∙ left in
        ⊎_elim (λ here. stuck.2 q (lt-ltb q (length o.processes) (omega (arith, here.1, shaped.count))) full)
        (λ out. absurd (both_ways (is_empty (rest_of m q)) full (ap (λ r. is_empty (unwrap_or r [])) out.1))) (slice_get_cases m.rests q).1

    by_left : is_turn (phase m) m q ≡ true → (b : Bool) → is_empty (todo m q) ≡ b → next m q ≡ None
    by_left t true e = stops t (none_stops m.state (todo m q) e)
    by_left t false e = stops t (rest_stops m.state (todo m q) (waits_there t e (is_last m q) refl))

    by_turn : (b : Bool) → is_turn (phase m) m q ≡ b → next m q ≡ None
    by_turn true t = by_left t (is_empty (todo m q)) refl
    by_turn false t = next_early m q t

pub stays_stuck : (given other : Given) (h heard rest : List ℕ) (m k : Moment) → other ≡ given → moment_after other heard ≡ Some m → moment_after given h ≡ Some k → h ≡ heard ++ rest → IsStuck other.outline m → IsStuck given.outline k
stays_stuck given other h heard rest m k same first last is stuck = go rest (later given other h heard rest m k same first last is)
  where
    go : (xs : List ℕ) → run_on xs (Some m) ≡ Some k → IsStuck given.outline k
    go [] e = subst (λ (z : Program × Moment). IsStuck z.0 z.1) (λ i. (ap (λ (g : Given). g.outline) same i, same_Some m k e i)) stuck
    go (x ∷ xs) e =
        absurd (none-some k (sym (run_none xs) ∙ (ap (run_on xs) (sym (stuck_stops other.outline m x (shaped_after other heard m first) stuck)) ∙ e)))

-- ---- where every process has nothing left, the program has finished

pub all_done : (o : Program) (m : Moment) → IsShaped o m → ((p : ℕ) → p < process_count o → is_empty (todo m p) ≡ true) → is_finished m ≡ true
all_done o m shaped done = and_from _ _ first (and_from _ _ all last)
  where
    rest_done : (p : ℕ) → is_empty (rest_of m p) ≡ true
    rest_done p = ⊎_elim
        (λ here. let out : is_last m p ≡ false = false_from_ne_true (is_last m p) (λ h. absurd (omega (arith, here.1, eqb-true p (length m.rests) h))) in
        sym (ap (λ b. is_empty (if b then main_rest m else rest_of m p)) out) ∙ done p (omega (arith, here.1, shaped.count)))
        (λ out. ap (λ r. is_empty (unwrap_or r [])) out.1)
        (slice_get_cases m.rests p).1

    all : all_empty m.rests ≡ true
    all = all_empty_from m.rests rest_done

    parts : (a b : Rest) → is_empty (if is_empty a then b else a) ≡ true → (is_empty a ≡ true) × (is_empty b ≡ true)
    parts [] b e = (refl, e)
    parts (head ∷ a) b e = absurd (both_ways false refl e)

    main_done : length o.processes < process_count o → (is_empty m.prologue ≡ true) × (is_empty m.epilogue ≡ true)
    main_done less =
        parts m.prologue m.epilogue (sym (ap (λ b. is_empty (if b then main_rest m else rest_of m (length o.processes))) (eq-eqb (length o.processes) (length m.rests) (sym shaped.count))) ∙ done (length o.processes) less)

    both : (a b : Bool) → is_some o.prologue ≡ a → is_some o.epilogue ≡ b → (is_empty m.prologue ≡ true) × (is_empty m.epilogue ≡ true)
    both true b e f = main_done (rw e (omega arith))
    both false true e f = main_done (rw e (rw f (omega arith)))
    both false false e f = (shaped.no_prologue e, shaped.no_epilogue f)

    ends : (is_empty m.prologue ≡ true) × (is_empty m.epilogue ≡ true)
    ends = both (is_some o.prologue) (is_some o.epilogue) refl refl

    first : is_empty m.prologue ≡ true
    first = ends.0

    last : is_empty m.epilogue ≡ true
    last = ends.1
