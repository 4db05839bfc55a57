-- Seats that come back at the end.
use Rattle.std.proofs.Common.{◌≡◌, ◌⊎◌, ℕ, zero, suc, ◌+◌, ◌<◌, ◌≤◌, Bool, true, false, List, [], ◌∷◌, ◌++◌, length, refl, sym, ap, ◌∙◌, subst, ⊎_elim, inl, inr, arith, length-append, append_assoc, leb, Some}
use Rattle.std.specs.Prelude.{slice_get}
use Rattle.std.specs.List.{AllZip}
use Rattle.std.proofs.lemmas.Option.{slice_get_within}
use Rattle.std.proofs.lemmas.Bool.Decides.{leb_tells}
use Rattle.og_run.specs.declared.rule.Card.{Card}
use Rattle.og_run.specs.Runs.{Given}
use Rattle.og_run.specs.Histories.{process_count, IsRun}
use Rattle.og_run.specs.declared.turn.RunTurn.{RunTurn}
use Rattle.og_run.specs.declared.turn.RunTurn.TheVariants.{Overflow, Done, Stuck, Limit}
use Rattle.og_run.specs.Turns.{IsTurn, SomeOverflows, after_turn, is_overflow}
use Rattle.og_run.specs.Cards.{Place, Acts, CardFits, EndOf, CameBack, SeatsFor}
use Rattle.og_run.specs.Over.{OverAt}
use Rattle.og_run.proofs.Steps.{off}
use Rattle.og_run.proofs.Staying.{stays_done, stays_stuck}

-- each seat came back, at its end
pub ended_at : (xs us : List Place) (k : ℕ) (s : Place) → AllZip CameBack xs us → slice_get xs k ≡ Some s → (e : Place) × (slice_get us k ≡ Some e) × (e.process ≡ s.process) × (e.card.given ≡ s.card.given) × EndOf e
ended_at [] us k s f at = absurd (cc)
ended_at (x ∷ xs) [] k s f at = absurd f
ended_at (x ∷ xs) (u ∷ us) zero s f at = let same : x ≡ s = some_place x s at in (u, refl, f.0.0 ∙ ap (λ z. z.process) same, f.0.1 ∙ ap (λ z. z.card.given) same, f.0.2)
  where
    some_place : (a b : Place) → Some a ≡ Some b → a ≡ b
    some_place a b e = cc
ended_at (x ∷ xs) (u ∷ us) (suc k) s f at = ended_at xs us k s f.1 at

-- what has come to an end stays at its end
pub over_at : (given : Given) (h : List ℕ) (halted : Bool) (e : Place) → IsRun given h → CardFits given h halted e.process e.card → EndOf e → OverAt given h halted e.process
over_at given h halted e run f end =
    let p : ℕ = e.process in
    let heard : List ℕ = e.card.heard in
    let len : length h ≡ length heard + length f.1 = ap (length {A = ℕ}) f.2 ∙ length-append heard f.1 in (
      run.last,
      run.leads,
      ⊎_elim
          (λ (t : e.card.halted ≡ true). inr (inr (inr (f.4 t).1)))
          (⊎_elim
          (λ (t : IsTurn e.card.given heard p Done). inl (stays_done given e.card.given h heard f.1 p t.0 run.last f.0 t.1 run.leads f.2 f.3 t.2))
          (⊎_elim
          (λ (t : IsTurn e.card.given heard p Stuck). inr (inl (stays_stuck given e.card.given h heard f.1 t.0 run.last f.0 t.1 run.leads f.2 t.2.1)))
          (λ (t : IsTurn e.card.given heard p Limit). inr (inr (inl (omega (arith, len, t.2.1, ap (λ (z : Given). z.limit) f.0)))))))
          end,
    )

at_popped : (new rest : List Place) (s t : Place) → slice_get (new ++ s ∷ rest) (length new) ≡ Some t → s ≡ t
at_popped [] rest s t e = cc
at_popped (x ∷ xs) rest s t e = at_popped xs rest s t e

pub popped : (seats old new rest : List Place) (s : Place) → seats ≡ old ++ rest → old ≡ new ++ s ∷ [] → seats ≡ new ++ s ∷ rest
popped seats old new rest s e f = e ∙ (ap (λ l. l ++ rest) f ∙ append_assoc new (s ∷ []) rest)

pub fits_more : (P : Place → Type 0) (seats old new rest : List Place) (s : Place) → seats ≡ old ++ rest → old ≡ new ++ s ∷ [] → P s
    → ((k : ℕ) (t : Place) → length old ≤ k → slice_get seats k ≡ Some t → P t) → (k : ℕ) (t : Place) → length new ≤ k → slice_get seats k ≡ Some t → P t
fits_more P seats old new rest s e f mine h k t far at = ⊎_elim
    (λ (b : (leb (length old) k ≡ true) × (length old ≤ k)). h k t b.1 at)
    (λ (b : (leb (length old) k ≡ false) × (k < length old)).
    let long : length old ≡ length new + 1 = ap (length {A = Place}) f ∙ length-append new (s ∷ []) in
    let less = b.1 in
    let here : k ≡ length new = omega arith in
    subst P (at_popped new rest s t (subst (λ (l : List Place). slice_get l (length new) ≡ Some t) (popped seats old new rest s e f) (subst (λ (i : ℕ). slice_get seats i ≡ Some t) here at))) mine)
    (leb_tells (length old) k)

pub none_past : (seats : List Place) (k : ℕ) (s : Place) → length seats ≤ k → slice_get seats k ≡ Some s → ⊥
none_past seats k s far at = let within = slice_get_within seats k s at in omega arith

place_there : (xs : List Place) (k : ℕ) → k < length xs → (s : Place) × (slice_get xs k ≡ Some s)
place_there [] k h = absurd (omega arith)
place_there (x ∷ xs) zero h = (x, refl)
place_there (x ∷ xs) (suc k) h = place_there xs k (omega arith)

-- the seat of each process came back, with a card of this given that fits the end
pub back_at : (given final : Given) (h : List ℕ) (halted : Bool) (seats ends : List Place) (p : ℕ) → SeatsFor given seats → AllZip CameBack seats ends → p < process_count given.outline
    → ((k : ℕ) (s : Place) → slice_get ends k ≡ Some s → CardFits final h halted s.process s.card)
    → (e : Place) × (e.process ≡ p) × (given ≡ final) × CardFits final h halted e.process e.card × EndOf e
back_at given final h halted seats ends p for_all ended less fits =
    let len = for_all.0 in
    let s = place_there seats p (omega arith) in
    let first = for_all.1 p s.0 s.1 in
    let e = ended_at seats ends p s.0 ended s.1 in
    let f = fits p e.0 e.1 in
    (e.0, e.2 ∙ first.0, sym (ap (λ z. z.given) first.1) ∙ (sym e.3 ∙ f.0), f, e.4)

-- an act that leaves the history leaves the turn
still : (t : RunTurn) (p : ℕ) (c : Card) (s : Place) → Acts p c t s.card → ((h : List ℕ) → after_turn t h p ≡ h) → s.process ≡ p → (s.card.halted ≡ true) ⊎ IsTurn s.card.given s.card.heard s.process t
still t p c s acts stays same =
    let h : List ℕ = c.heard ++ acts.1 in ⊎_elim
    (λ (f : (c.halted ≡ false) × IsTurn c.given h p t × (is_overflow t ≡ false) × (s.card.halted ≡ false) × (s.card.heard ≡ after_turn t h p)).
    let heard : s.card.heard ≡ h = f.4 ∙ stays h in
    inr (subst (λ (z : Given × (List ℕ × ℕ)). IsTurn z.0 z.1.0 z.1.1 t) (λ i. (sym acts.0 i, (sym heard i, sym same i))) f.1))
    (λ (o : (t ≡ Overflow) × (s.card.halted ≡ true) × (s.card.heard ≡ h) × SomeOverflows c.given h). inl o.1)
    acts.3

overflow_told : (p : ℕ) (c : Card) (s : Place) → Acts p c Overflow s.card → s.card.halted ≡ true
overflow_told p c s acts =
    let h : List ℕ = c.heard ++ acts.1 in ⊎_elim
    (λ (f : (c.halted ≡ false) × IsTurn c.given h p Overflow × (is_overflow Overflow ≡ false) × (s.card.halted ≡ false) × (s.card.heard ≡ after_turn Overflow h p)).
    absurd (off (sym f.2)))
    (λ (o : (Overflow ≡ Overflow) × (s.card.halted ≡ true) × (s.card.heard ≡ h) × SomeOverflows c.given h). o.1)
    acts.3

-- an act that answers one of the four is an end
pub end_act : (t : RunTurn) (p : ℕ) (c : Card) (s : Place) → Acts p c t s.card → (t ≡ Done) ⊎ (t ≡ Stuck) ⊎ (t ≡ Limit) ⊎ (t ≡ Overflow) → s.process ≡ p → EndOf s
end_act t p c s a which same = ⊎_elim
    (λ (e : t ≡ Done). ⊎_elim (λ (h : s.card.halted ≡ true). inl h) (λ (u : IsTurn s.card.given s.card.heard s.process Done). inr (inl u)) (still Done p c s (subst (λ t. Acts p c t s.card) e a) (λ h. refl) same))
    (⊎_elim
    (λ (e : t ≡ Stuck). ⊎_elim (λ (h : s.card.halted ≡ true). inl h) (λ (u : IsTurn s.card.given s.card.heard s.process Stuck). inr (inr (inl u))) (still Stuck p c s (subst (λ t. Acts p c t s.card) e a) (λ h. refl) same))
    (⊎_elim
    (λ (e : t ≡ Limit). ⊎_elim (λ (h : s.card.halted ≡ true). inl h) (λ (u : IsTurn s.card.given s.card.heard s.process Limit). inr (inr (inr u))) (still Limit p c s (subst (λ t. Acts p c t s.card) e a) (λ h. refl) same))
    (λ (e : t ≡ Overflow). inl (overflow_told p c s (subst (λ t. Acts p c t s.card) e a)))))
    which
