-- A step of one process keeps its chain, and makes its new current assertion true.
use Rattle.std.proofs.Common.{◌≡◌, ℕ, ℤ, List, [], ◌∷◌, ◌++◌, Bool, true, false, not, ◌&&◌, if◌then◌else◌, Option, Some, None, IfSome, refl, inl, inr}
use Rattle.std.specs.Prelude.{◌⊎◌}
use Rattle.std.proofs.lemmas.Bool.{and_from, not_from_true, not_from_false}
use Rattle.og_typed.specs.Syntax.{Formula, Statement, Skip, Assign, If, While, Await, Otherwise, Nothing, Else, Sequence, Rest, items, else_items, last_of}
use Rattle.og_typed.specs.Pieces.{first_of, pieces, pieces_of_else}
use Rattle.og_linear.specs.Linear.{IsProper}
use Rattle.og_typed.specs.Truth.{truth}
use Rattle.og_typed.specs.Machine.{act, all_fit, attempt, advance, advance_rest, head_or, is_empty, stmt_overflows, rest_overflows}
use Rattle.og_cond.specs.Valid.{IsValid, AreValid, hypotheses_true}
use Rattle.og_cond.specs.Conditions.{Action, assigned, stmt_conditions, else_conditions, seq_conditions}
use Rattle.og_typed.proofs.Each.{Each, each_left, each_right}
use Rattle.og_typed.proofs.Frame.{act_proper}
use Rattle.og_theorem.proofs.Chain.{Gives, gives_itself, gives_on, IsKnown, Chain, head_append, chain_append, seq_chain, seq_first}

not_both : (b f : Bool) → (b ≡ true → f ≡ true) → (b && not f) ≡ false
not_both true f h = not_from_true f (h refl)
not_both false f h = refl

-- where the conditions are true, no statement overflows
pub no_overflow : (s : List ℤ) (n at : ℕ) (before after : Formula) (stmt : Statement) → IsProper s → AreValid (stmt_conditions n before at stmt after) → truth before s ≡ true → stmt_overflows s stmt ≡ false
no_overflow s n at before after Skip proper valid h = refl
no_overflow s n at before after (Assign x e) proper valid h = not_from_true _ (valid.1.0 s proper (and_from _ _ h refl))
no_overflow s n at before after (If b branch other) proper valid h = refl
no_overflow s n at before after (While b body) proper valid h = refl
no_overflow s n at before after (Await b body) proper valid h =
    not_both (truth b s) (all_fit body s) (λ holds. valid.1.0 s proper (and_from _ _ h (and_from _ _ holds refl)))

module _ (IsHead : Formula → Statement → Type 0) (IsAction : Action → Type 0) where
  -- the state is as it was, or a known action was done
  abbrev pub Effect : List ℤ → List ℤ → Type 0
  Effect s r = (r ≡ s) ⊎ ((action : Action) × IsAction action × (hypotheses_true s action.hypotheses ≡ true) × (r ≡ act (assigned action) s))

  -- the rest is a chain whose first assertion is true
  abbrev pub IsReady : List ℤ → Rest → Formula → Type 0
  IsReady s rest last = Chain IsHead IsAction rest last × (truth (head_or rest last) s ≡ true)

  abbrev pub IsGood : List ℤ → Formula → List ℤ × Rest → Type 0
  IsGood s last after = IsProper after.0 × IsReady after.0 after.1 last × Effect s after.0

  attempt_good : (s : List ℤ) (rest : Rest) (after last : Formula) (action : Action) → IsProper s → IsAction action → hypotheses_true s action.hypotheses ≡ true → truth after (act (assigned action) s) ≡ true → Gives after (head_or rest last) → Chain IsHead IsAction rest last → IfSome (attempt (assigned action) s rest) (IsGood s last)
  attempt_good s rest after last action proper known h reached g chain = go (all_fit (assigned action) s) refl
    where
      go : (b : Bool) → all_fit (assigned action) s ≡ b → IfSome (if b then Some (act (assigned action) s, rest) else None) (IsGood s last)
      go true fit =
          let proper' = act_proper (assigned action) s proper fit in
          (proper', (chain, g (act (assigned action) s) proper' reached), inr (action, known, h, refl))
      go false fit = tt

  branch_ready : (n : ℕ) (s : List ℤ) (branch : Sequence) (rest : Rest) (after last : Formula) → IsProper s → AreValid (seq_conditions n branch) → Each (IsKnown IsHead IsAction) (pieces branch) → Gives (last_of branch).assertion after → Gives after (head_or rest last) → Chain IsHead IsAction rest last → truth (first_of branch).assertion s ≡ true → IsReady s (items branch ++ rest) last
  branch_ready n s branch rest after last proper valid known join g chain h =
      let first = (first_of branch).assertion in
      let end = (last_of branch).assertion in
      let next = gives_on end after (head_or rest last) join g in (
        chain_append IsHead IsAction (items branch) rest end last (seq_chain IsHead IsAction n branch valid known) next chain,
        head_append IsHead IsAction first end last (items branch) rest (gives_itself first (head_or (items branch) end) (seq_first IsHead IsAction branch)) next s proper h,
      )

  -- of a sequence's conditions and one more, that its last assertion gives another
  else_ready : (n : ℕ) (s : List ℤ) (at : ℕ) (before b : Formula) (other : Otherwise) (rest : Rest) (after last : Formula) → IsProper s → AreValid (else_conditions n before at b other after) → Each (IsKnown IsHead IsAction) (pieces_of_else other) → Gives after (head_or rest last) → Chain IsHead IsAction rest last → truth before s ≡ true → truth b s ≡ false → IsReady s (else_items other ++ rest) last
  else_ready n s at before b Nothing rest after last proper valid known g chain h wrong =
      (chain, g s proper (valid.0 s proper (and_from _ _ h (and_from _ _ (not_from_false _ wrong) refl))))
  else_ready n s at before b (Else branch) rest after last proper valid known g chain h wrong =
      let joined = each_right IsValid (seq_conditions n branch) _ valid.1 in
      branch_ready n s branch rest after last proper (each_left IsValid (seq_conditions n branch) _ valid.1) known
      (λ r fine e. joined.0 r fine (and_from _ _ e refl)) g chain
      (valid.0 s proper (and_from _ _ h (and_from _ _ (not_from_false _ wrong) refl)))

  pub advance_good : (s : List ℤ) (before : Formula) (stmt : Statement) (rest : Rest) (last : Formula) → IsProper s → Chain IsHead IsAction ((before, stmt) ∷ rest) last → truth before s ≡ true → IfSome (advance s before stmt rest) (IsGood s last)
  advance_good s before Skip rest last proper c h =
      (proper, (c.3, c.2 s proper (c.1.valid.0 s proper (and_from _ _ h refl))), inl refl)
  advance_good s before (Assign x e) rest last proper c h =
      let hyp = and_from _ _ h refl in
      attempt_good s rest c.0 last _ proper c.1.action hyp (c.1.valid.0 s proper hyp) c.2 c.3
  advance_good s before (If b branch other) rest last proper c h = (proper, go (truth b s) refl, inl refl)
    where
      go : (t : Bool) → truth b s ≡ t → IsReady s ((if t then items branch else else_items other) ++ rest) last
      go true holds =
          let joined = each_right IsValid (seq_conditions c.1.variables branch) _ c.1.valid.1 in
          branch_ready c.1.variables s branch rest c.0 last proper (each_left IsValid (seq_conditions c.1.variables branch) _ c.1.valid.1)
          (each_left (IsKnown IsHead IsAction) (pieces branch) (pieces_of_else other) c.1.below)
          (λ r fine e. joined.0 r fine (and_from _ _ e refl)) c.2 c.3
          (c.1.valid.0 s proper (and_from _ _ h (and_from _ _ holds refl)))
      go false wrong =
          let joined = each_right IsValid (seq_conditions c.1.variables branch) _ c.1.valid.1 in
          else_ready c.1.variables s c.1.at before b other rest c.0 last proper joined.1
          (each_right (IsKnown IsHead IsAction) (pieces branch) (pieces_of_else other) c.1.below) c.2 c.3 h wrong
  advance_good s before (While b body) rest last proper c h = (proper, go (truth b s) refl, inl refl)
    where
      go : (t : Bool) → truth b s ≡ t → IsReady s (if t then items body ++ (before, While b body) ∷ rest else rest) last
      go true holds =
          let joined = each_right IsValid (seq_conditions c.1.variables body) _ c.1.valid.1 in
          branch_ready c.1.variables s body ((before, While b body) ∷ rest) before last proper (each_left IsValid (seq_conditions c.1.variables body) _ c.1.valid.1)
          c.1.below (λ r fine e. joined.0 r fine (and_from _ _ e refl)) (gives_itself before before refl) c
          (c.1.valid.0 s proper (and_from _ _ h (and_from _ _ holds refl)))
      go false wrong =
          let joined = each_right IsValid (seq_conditions c.1.variables body) _ c.1.valid.1 in
          (c.3, c.2 s proper (joined.1.0 s proper (and_from _ _ h (and_from _ _ (not_from_false _ wrong) refl))))
  advance_good s before (Await b body) rest last proper c h = go (truth b s) refl
    where
      go : (t : Bool) → truth b s ≡ t → IfSome (if t then attempt body s rest else None) (IsGood s last)
      go true holds =
          let hyp = and_from _ _ h (and_from _ _ holds refl) in
          attempt_good s rest c.0 last _ proper c.1.action hyp (c.1.valid.0 s proper hyp) c.2 c.3
      go false wrong = tt

  -- of a whole rest, which has something left where it has a step
  pub rest_good : (s : List ℤ) (rest : Rest) (last : Formula) → IsProper s → IsReady s rest last → IfSome (advance_rest s rest) (λ after. (is_empty rest ≡ false) × IsGood s last after)
  rest_good s [] last proper ready = tt
  rest_good s (head ∷ rest) last proper ready =
      go (advance s head.0 head.1 rest) (advance_good s head.0 head.1 rest last proper ready.0 ready.1)
    where
      go : (a : Option (List ℤ × Rest)) → IfSome a (IsGood s last) → IfSome a (λ after. (false ≡ false) × IsGood s last after)
      go None h = tt
      go (Some after) h = (refl, h)

  -- and it doesn't overflow
  pub ready_fits : (s : List ℤ) (rest : Rest) (last : Formula) → IsProper s → IsReady s rest last → rest_overflows s rest ≡ false
  ready_fits s [] last proper ready = refl
  ready_fits s (head ∷ rest) last proper ready =
      no_overflow s ready.0.1.variables ready.0.1.at head.0 ready.0.0 head.1 proper ready.0.1.valid ready.1
