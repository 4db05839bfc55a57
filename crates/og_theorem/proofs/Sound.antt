-- Where the conditions are true, every run is as promised.
use Rattle.std.proofs.Common.{◌≡◌, ℕ, zero, suc, ◌<◌, arith, ℤ, List, [], ◌∷◌, length, Bool, true, false, not, ◌&&◌, ◌||◌, ◌==◌, if◌then◌else◌, Some, None, Option, IfSome, is_some, slice_get, unwrap_or, option_map, refl, sym, ap, ap₂, ◌∙◌, subst, ⊎_elim, inl, inr}
use Rattle.std.specs.Prelude.{◌⊎◌}
use Rattle.std.proofs.lemmas.Bool.{and_from, and_parts, both_ways, eq-eqb, eqb-true, ltb-true, false_from_ne_true}
use Rattle.std.proofs.lemmas.Option.{slice_get_cases, slice_get_past}
use Rattle.og_typed.specs.Syntax.{Formula, Statement, Sequence, Program, Rest, last_of}
use Rattle.og_typed.specs.Pieces.{Piece, pieces}
use Rattle.og_linear.specs.Linear.{IsProper}
use Rattle.og_typed.specs.Truth.{truth}
use Rattle.og_typed.specs.Machine.{Moment, Phase, Before, During, After, phase, phase_by, IsReached, rest_of, head_or, is_main, is_process, active, active_in, main_rest, todo, end_of, rest_overflows, all_empty, is_empty}
use Rattle.og_cond.specs.Conditions.{Action}
use Rattle.og_typed.proofs.Each.{Each}
use Rattle.og_theorem.specs.Sound.{IsSound}
use Rattle.og_theorem.specs.Proved.{IsSafe}
use Rattle.og_theorem.proofs.Steps.{IsReady, ready_fits}
use Rattle.og_theorem.proofs.Invariant.{IsHead, MainHead, MainAction, AllMeet, Meets, IsAction, IsInvariant, Now, is_nothing, opened, ended, start_invariant, run_invariant}

-- nothing more is asked of the statements
abbrev pub Any : Statement → Type 0
Any stmt = Unit {0}

any_pieces : (ps : List Piece) → Each (λ piece. Any piece.stmt) ps
any_pieces [] = tt
any_pieces (p ∷ ps) = (tt, any_pieces ps)

any_each : (ps : List Sequence) → Each (Meets Any) ps
any_each [] = tt
any_each (p ∷ ps) = (any_pieces (pieces p), any_each ps)

any_part : (part : Option Sequence) → IfSome part (Meets Any)
any_part None = tt
any_part (Some part) = any_pieces (pieces part)

pub any_meet : (o : Program) → AllMeet Any o
any_meet o = (any_part o.prologue, any_each o.processes, any_part o.epilogue)

pub all_empty_from : (rests : List Rest) → ((i : ℕ) → is_empty (unwrap_or (slice_get rests i) []) ≡ true) → all_empty rests ≡ true
all_empty_from [] h = refl
all_empty_from (rest ∷ rests) h = and_from _ _ (h zero) (all_empty_from rests (λ i. h (suc i)))

head_same : (rest : Rest) (a b : Formula) → is_empty rest ≡ false → head_or rest a ≡ head_or rest b
head_same [] a b e = absurd (both_ways true e refl)
head_same (head ∷ rest) a b e = refl

-- ---- the rest and the last assertion of a process, by its number

pub main_number : (o : Program) (p : ℕ) → is_main o p ≡ true → p ≡ length o.processes
main_number o p e = eqb-true p (length o.processes) (and_parts _ _ e).1

pub process_at : (o : Program) (p : ℕ) → is_process o p ≡ true → (q : Sequence) × (slice_get o.processes p ≡ Some q)
process_at o p e =
    ⊎_elim (λ there. (there.0, there.2)) (λ past. absurd (omega (arith, ltb-true p (length o.processes) e, past.0))) (slice_get_cases o.processes p).1

pub todo_main : (m : Moment) (n : ℕ) → length m.rests ≡ n → todo m n ≡ main_rest m
todo_main m n e = ap (λ b. if b then main_rest m else rest_of m n) (eq-eqb n (length m.rests) (sym e))

pub todo_process : (m : Moment) (p : ℕ) → p < length m.rests → todo m p ≡ rest_of m p
todo_process m p lt =
    ap (λ b. if b then main_rest m else rest_of m p)
    (false_from_ne_true (p == length m.rests) (λ e. absurd (omega (arith, lt, eqb-true p (length m.rests) e))))

end_main : (o : Program) (n : ℕ) → length o.processes ≡ n → end_of o n ≡ o.post.assertion
end_main o n e =
    ap (λ t. unwrap_or (option_map (λ process. (last_of process).assertion) t) o.post.assertion) (slice_get_past o.processes n (omega (arith, e)))

end_process : (o : Program) (p : ℕ) (q : Sequence) → slice_get o.processes p ≡ Some q → end_of o p ≡ (last_of q).assertion
end_process o p q e = ap (λ t. unwrap_or (option_map (λ process. (last_of process).assertion) t) o.post.assertion) e

-- in each phase
pub main_before : (m : Moment) → is_empty m.prologue ≡ false → main_rest m ≡ m.prologue
main_before m e = ap (λ b. if b then m.epilogue else m.prologue) e

pub main_after : (m : Moment) → is_empty m.prologue ≡ true → main_rest m ≡ m.epilogue
main_after m e = ap (λ b. if b then m.epilogue else m.prologue) e

-- the next assertion is true, and the next statement doesn't overflow
abbrev pub IsFine : List ℤ → Rest → Formula → Type 0
IsFine s rest last = (truth (head_or rest last) s ≡ true) × (rest_overflows s rest ≡ false)

ready_fine : (IsN : Formula → Statement → Type 0) (IsA : Action → Type 0) (s : List ℤ) (rest : Rest) (last : Formula) → IsProper s → IsReady IsN IsA s rest last → IsFine s rest last
ready_fine IsN IsA s rest last proper ready = (ready.1, ready_fits IsN IsA s rest last proper ready)

-- the active part in a phase, by its rest
pub active_cases : (o : Program) (m : Moment) (p : ℕ) (f : Phase) → active_in f o p ≡ true → ((f ≡ Before) × (is_main o p ≡ true)) ⊎ (((f ≡ During) × (is_process o p ≡ true)) ⊎ (((f ≡ After) × (is_main o p ≡ true)) ⊎ ((f ≡ After) × (is_process o p ≡ true) × (is_some o.epilogue ≡ false))))
active_cases o m p Before h = inl (refl, h)
active_cases o m p During h = inr (inl (refl, h))
active_cases o m p After h = go (is_main o p) refl h
  where
    go : (b : Bool) → is_main o p ≡ b → (b || (is_process o p && not (is_some o.epilogue))) ≡ true → ((After ≡ Before) × (is_main o p ≡ true)) ⊎ (((After ≡ During) × (is_process o p ≡ true)) ⊎ (((After ≡ After) × (is_main o p ≡ true)) ⊎ ((After ≡ After) × (is_process o p ≡ true) × (is_some o.epilogue ≡ false))))
    go true e g = inr (inr (inl (refl, e)))
    go false e g =
        let both = and_parts _ _ g in
        inr (inr (inr (refl, both.0, false_from_ne_true (is_some o.epilogue) (λ s. both_ways (not (is_some o.epilogue)) (ap not s) both.1))))

module _ (o : Program) (valid : IsSafe o) where
  pub reached : (m : Moment) → IsReached o m → IsInvariant Any o m
  reached m r = run_invariant Any o r.1 _ m (start_invariant Any o valid (any_meet o) r.0 r.2) r.3

  active_fine : (m : Moment) → IsInvariant Any o m → (p : ℕ) → active o m p ≡ true → IsFine m.state (todo m p) (end_of o p)
  active_fine m inv p live =
      ⊎_elim opening (⊎_elim between (⊎_elim closing left)) (active_cases o m p (phase m) live)
    where
      main_fine : (rest : Rest) → main_rest m ≡ rest → is_main o p ≡ true → IsFine m.state rest o.post.assertion → IsFine m.state (todo m p) (end_of o p)
      main_fine rest e main fine =
          let n = main_number o p main in
          subst (λ r. IsFine m.state r (end_of o p)) (sym (todo_main m p (inv.count ∙ sym n) ∙ e))
          (subst (IsFine m.state rest) (sym (end_main o p (sym n))) fine)

      process_fine : is_process o p ≡ true → ((i : ℕ) (q : Sequence) → slice_get o.processes i ≡ Some q → truth (head_or (rest_of m i) (last_of q).assertion) m.state ≡ true) → IsFine m.state (todo m p) (end_of o p)
      process_fine h currents =
          let there = process_at o p h in
          let q = there.0 in
          let within : p < length m.rests = subst (λ n. p < n) (sym inv.count) (ltb-true p (length o.processes) h) in
          subst (λ r. IsFine m.state r (end_of o p)) (sym (todo_process m p within))
          (subst (IsFine m.state (rest_of m p)) (sym (end_process o p q there.1))
          (ready_fine (IsHead Any q) (IsAction o.processes p) m.state (rest_of m p) (last_of q).assertion inv.proper (inv.chains p q there.1, currents p q there.1)))

      opening : (phase m ≡ Before) × (is_main o p ≡ true) → IsFine m.state (todo m p) (end_of o p)
      opening h =
          let full = opened m h.0 in
          let now = subst (Now Any o m) h.0 inv.now in
          let fine = ready_fine (MainHead Any) (MainAction Any) m.state m.prologue _ inv.proper (inv.opening, now.0) in
          main_fine m.prologue (main_before m full) h.1
          (subst (λ a. truth a m.state ≡ true) (head_same m.prologue _ o.post.assertion full) fine.0, fine.1)

      between : (phase m ≡ During) × (is_process o p ≡ true) → IsFine m.state (todo m p) (end_of o p)
      between h = process_fine h.1 (subst (Now Any o m) h.0 inv.now).0

      closing : (phase m ≡ After) × (is_main o p ≡ true) → IsFine m.state (todo m p) (end_of o p)
      closing h =
          let now = subst (Now Any o m) h.0 inv.now in
          main_fine m.epilogue (main_after m (ended m h.0).0) h.1
          (ready_fine (MainHead Any) (MainAction Any) m.state m.epilogue o.post.assertion inv.proper (inv.closing, now.0))

      left : (phase m ≡ After) × (is_process o p ≡ true) × (is_some o.epilogue ≡ false) → IsFine m.state (todo m p) (end_of o p)
      left h = process_fine h.1 ((subst (Now Any o m) h.0 inv.now).1 h.2)

  pub sound : IsSound o
  sound = record {
    current_holds = λ m r p live. (active_fine m (reached m r) p live).0;
    never_overflows = λ m r p live. (active_fine m (reached m r) p live).1;
    post_at_end = λ m r done.
        let inv = reached m r in
        let parts = and_parts _ _ done in
        let more = and_parts _ _ parts.1 in
        let now = subst (Now Any o m) (ap₂ phase_by parts.0 more.0) inv.now in
        subst (λ rest. truth (head_or rest o.post.assertion) m.state ≡ true) (is_nothing m.epilogue more.1) now.0;
  }
