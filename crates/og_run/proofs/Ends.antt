-- How a run ends, and what a proved outline promises of it.
use Rattle.std.proofs.Common.{◌≡◌, ℕ, ◌<◌, ◌≤◌, Bool, true, false, not, ◌&&◌, List, length, Option, Some, None, is_some, refl, sym, ap, ◌∙◌, subst, ⊎_elim, arith}
use Rattle.std.specs.Prelude.{IfSome}
use Rattle.std.proofs.lemmas.Bool.{both_ways}
use Rattle.std.proofs.lemmas.Option.{same_Some}
use Rattle.og_typed.specs.Machine.{Moment, phase, is_empty, todo, is_finished, active, overflows, IsReached, IsStart}
use Rattle.og_typed.specs.Turns.{is_turn}
use Rattle.og_typed.specs.Stuck.{IsStuck}
use Rattle.og_typed.proofs.Turns.{turn_active}
use Rattle.og_theorem.specs.Sound.{IsSound}
use Rattle.og_step.specs.Progress.{Progress}
use Rattle.og_run.specs.Runs.{Given, moment_after}
use Rattle.og_run.specs.Histories.{IsRun, process_count}
use Rattle.og_run.specs.Turns.{IsTurn, Answers, SomeOverflows, is_overflow}
use Rattle.og_run.specs.declared.turn.RunTurn.{RunTurn}
use Rattle.og_run.specs.declared.turn.RunTurn.TheVariants as turn
use Rattle.og_run.specs.declared.outcome.Finish.{Finish}
use Rattle.og_run.specs.declared.outcome.Outcome.{Outcome}
use Rattle.og_run.specs.Standing.{Standing, IsBoard, halted_after}
use Rattle.og_run.specs.Ends.{IsFinish, IsOutcome}
use Rattle.og_run.specs.Over.{OverAt}
use Rattle.og_run.proofs.Histories.{shaped_after}
use Rattle.og_run.proofs.Staying.{all_done}

-- ---- a board's turn, as its history and what it notes

pub noted_over : (s : Standing) → is_some s.halted ≡ true → IfSome s.halted (λ q. IsTurn s.given s.history q turn.Overflow) → SomeOverflows s.given s.history
noted_over s e = go s.halted e
  where
    go : (o : Option ℕ) → is_some o ≡ true → IfSome o (λ q. IsTurn s.given s.history q turn.Overflow) → SomeOverflows s.given s.history
    go None e n = absurd (both_ways false refl e)
    go (Some q) e n = (q, n)

pub turn_halted : (t : RunTurn) (o : Option ℕ) (g : Given) (h : List ℕ) (p : ℕ) → Answers (is_some o) g h p t → is_some (halted_after t o p) ≡ is_overflow t
turn_halted turn.Overflow None g h p a = refl
turn_halted turn.Overflow (Some q) g h p a = refl
turn_halted turn.Done None g h p a = refl
turn_halted turn.Done (Some q) g h p a = absurd (cc)
turn_halted turn.Stuck None g h p a = refl
turn_halted turn.Stuck (Some q) g h p a = absurd (cc)
turn_halted turn.Limit None g h p a = refl
turn_halted turn.Limit (Some q) g h p a = absurd (cc)
turn_halted turn.Early None g h p a = refl
turn_halted turn.Early (Some q) g h p a = absurd (cc)
turn_halted turn.Waits None g h p a = refl
turn_halted turn.Waits (Some q) g h p a = absurd (cc)
turn_halted turn.Moved None g h p a = refl
turn_halted turn.Moved (Some q) g h p a = absurd (cc)

pub turn_over : (t : RunTurn) (s : Standing) (p : ℕ) → IfSome s.halted (λ q. IsTurn s.given s.history q turn.Overflow) → Answers (is_some s.halted) s.given s.history p t → t ≡ turn.Overflow → SomeOverflows s.given s.history
turn_over t s p noted a is = go s.halted noted a
  where
    go : (o : Option ℕ) → IfSome o (λ q. IsTurn s.given s.history q turn.Overflow) → Answers (is_some o) s.given s.history p t → SomeOverflows s.given s.history
    go None n b = (p, subst (IsTurn s.given s.history p) is b)
    go (Some q) n b = (q, n)

-- ---- overflow, of an active process

pub over_active : (g : Given) (h : List ℕ) (p : ℕ) (m : Moment) → moment_after g h ≡ Some m → IsTurn g h p turn.Overflow → (active g.outline m p ≡ true) × (overflows m p ≡ true)
over_active g h p m leads over =
    let same = same_Some over.0 m (sym over.1 ∙ leads) in
    let t = over.2 in
    let left = t.0.0.0.0 in
    let shaped = shaped_after g h over.0 over.1 in
    let its = is_its (is_empty (todo over.0 p)) (is_turn (phase over.0) over.0 p) left t.0.1 in
    subst (λ z. (active g.outline z p ≡ true) × (overflows z p ≡ true)) same (turn_active g.outline over.0 p shaped left ∙ its, t.1)
  where
    is_its : (a b : Bool) → a ≡ false → (not a && not b) ≡ false → b ≡ true
    is_its true b e f = absurd (both_ways true e refl)
    is_its false true e f = refl
    is_its false false e f = absurd (both_ways true f refl)

-- ---- the end

pub finish_some : (g : Given) (h : List ℕ) (halted : Bool) (m : Moment) → moment_after g h ≡ Some m → ((p : ℕ) → p < process_count g.outline → OverAt g h halted p) → is_finished m ≡ false → (IsStuck g.outline m → ⊥) → length h < g.limit → halted ≡ false → ⊥
finish_some g h halted m leads over unfinished free room none =
    both_ways (is_finished m) unfinished (all_done g.outline m (shaped_after g h m leads) (λ p less. done p (over p less)))
  where
    done : (p : ℕ) → OverAt g h halted p → is_empty (todo m p) ≡ true
    done p o =
        let same = same_Some o.0 m (sym o.1 ∙ leads) in ⊎_elim
        (λ (e : is_empty (todo o.0 p) ≡ true). subst (λ z. is_empty (todo z p) ≡ true) same e)
        (⊎_elim (λ (e : IsStuck g.outline o.0). absurd (free (subst (IsStuck g.outline) same e)))
        (⊎_elim (λ (e : g.limit ≤ length h). absurd (omega (arith, e, room))) (λ (e : halted ≡ true). absurd (both_ways halted none e)))) o.2

pub finish_of : (g : Given) (h : List ℕ) (f : Finish) (m k : Moment) → moment_after g h ≡ Some m → moment_after g h ≡ Some k → IsFinish g h m f → IsFinish g h k f
finish_of g h f m k a b is = subst (λ z. IsFinish g h z f) (same_Some m k (sym a ∙ b)) is

pub outcome_of : (s : Standing) (a : Progress) (counts : List ℕ) (r : Outcome) → IsBoard s a counts → r.history.items ≡ s.history → r.state ≡ a.moment.state → ((m : Moment) → moment_after s.given s.history ≡ Some m → IsFinish s.given s.history m r.finish) → IsOutcome s.given r
outcome_of s a counts r is history state finish = record {
  begins = is.begins;
  short = omega (arith, is.short, ap (length {A = ℕ}) history);
  last = a.moment;
  leads = ap (moment_after s.given) history ∙ is.leads;
  state = state;
  finish = subst (λ h. IsFinish s.given h a.moment r.finish) (sym history) (finish a.moment is.leads);
}

-- ---- what a proved outline promises

pub reached_run : (g : Given) (h : List ℕ) (m : Moment) → IsStart g.outline g.values → moment_after g h ≡ Some m → IsReached g.outline m
reached_run g h m begins leads = (g.values, h, begins, leads)

pub never_over : (g : Given) (h : List ℕ) (p : ℕ) → IsSound g.outline → IsRun g h → IsTurn g h p turn.Overflow → ⊥
never_over g h p sound run over =
    let both = over_active g h p run.last run.leads over in
    both_ways (overflows run.last p) (sound.never_overflows run.last (reached_run g h run.last run.begins run.leads) p both.0) both.1

pub free_turn : (t : RunTurn) (o : Option ℕ) (g : Given) (h : List ℕ) (p : ℕ) → o ≡ None → Answers (is_some o) g h p t → IsTurn g h p t
free_turn t None g h p e a = a
free_turn t (Some q) g h p e a = absurd (cc)

pub still_none : (t : RunTurn) (o : Option ℕ) (p : ℕ) → o ≡ None → (t ≡ turn.Overflow → ⊥) → halted_after t o p ≡ None
still_none turn.Overflow o p e n = absurd (n refl)
still_none turn.Done o p e n = e
still_none turn.Stuck o p e n = e
still_none turn.Limit o p e n = e
still_none turn.Early o p e n = e
still_none turn.Waits o p e n = e
still_none turn.Moved o p e n = e
