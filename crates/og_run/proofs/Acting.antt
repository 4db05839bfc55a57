-- What one act does to the cards.
use Rattle.std.proofs.Common.{◌≡◌, ◌≢◌, ◌⊎◌, ℕ, ◌<◌, Bool, true, false, List, [], ◌∷◌, ◌++◌, set, refl, sym, ap, ◌∙◌, subst, ⊎_elim, inl, inr, arith, length-set, Option, Some, append-nil, append_assoc, eqb}
use Rattle.std.specs.Prelude.{slice_get, slice_set}
use Rattle.std.proofs.lemmas.Bool.Decides.{eqb_tells, nat_tests}
use Rattle.std.proofs.lemmas.Option.{slice_get_within}
use Rattle.atomic_table.specs.Seated.{TableId}
use Rattle.atomic_table.specs.declared.shared.Seat.{Seat}
use Rattle.og_run.specs.Runs.{Given}
use Rattle.og_run.specs.Histories.{process_count, moves_of}
use Rattle.og_run.specs.declared.turn.RunTurn.{RunTurn}
use Rattle.og_run.specs.declared.turn.RunTurn.TheVariants.{Overflow, Done, Stuck, Limit, Early, Waits, Moved}
use Rattle.og_run.specs.declared.rule.Card.{Card}
use Rattle.og_run.specs.declared.rule.Listed.{Listed}
use Rattle.og_run.specs.declared.rule.View.{View}
use Rattle.og_run.specs.Turns.{IsTurn, Answers, SomeOverflows, after_turn, is_overflow}
use Rattle.og_run.specs.Cards.{listed, keeper, holder, gives, CardFits, AllFit, Acts, IsTokenOf, Lists, Position, card_at}
use Rattle.og_run.proofs.Histories.{moves_append}
use Rattle.og_run.proofs.Steps.{off, same_some, slice_get_set_same, slice_get_set_other}

pub token_is : (table : TableId) (p : ℕ) (o : Option (Seat (Unit {0}) View)) (t : Seat (Unit {0}) View) → o ≡ Some t → IsTokenOf table p o → (t.table_id ≡ table) × (t.me ≡ (holder p t.me.0.card, []))
token_is table p o t e h = subst (IsTokenOf table p) e h

-- another process's card fits after the turn of p
fits_after : (given : Given) (h : List ℕ) (halted : Bool) (turn : RunTurn) (p q : ℕ) (c : Card) → q ≢ p → Answers halted given h p turn → CardFits given h halted q c
    → CardFits given (after_turn turn h p) (is_overflow turn) q c
fits_after given h halted Moved p q c apart is f = (
  f.0,
  f.1 ++ p ∷ [],
  ap (λ l. l ++ p ∷ []) f.2 ∙ append_assoc c.heard f.1 (p ∷ []),
  (let m = moves_append q f.1 (p ∷ []) in let z = f.3 in let none : moves_of q (p ∷ []) ≡ 0 = grind (arith, nat_tests) in omega arith),
  (λ t. absurd (wrong halted ((f.4 t).1) is)),
)
  where
    wrong : (b : Bool) → b ≡ true → Answers b given h p Moved → ⊥
    wrong true e k = cc
    wrong false e k = off e
fits_after given h halted Waits p q c apart is f =
    (f.0, f.1, f.2, f.3, (λ t. absurd (wrong halted ((f.4 t).1) is)))
  where
    wrong : (b : Bool) → b ≡ true → Answers b given h p Waits → ⊥
    wrong true e k = cc
    wrong false e k = off e
fits_after given h halted Done p q c apart is f =
    (f.0, f.1, f.2, f.3, (λ t. absurd (wrong halted ((f.4 t).1) is)))
  where
    wrong : (b : Bool) → b ≡ true → Answers b given h p Done → ⊥
    wrong true e k = cc
    wrong false e k = off e
fits_after given h halted Stuck p q c apart is f =
    (f.0, f.1, f.2, f.3, (λ t. absurd (wrong halted ((f.4 t).1) is)))
  where
    wrong : (b : Bool) → b ≡ true → Answers b given h p Stuck → ⊥
    wrong true e k = cc
    wrong false e k = off e
fits_after given h halted Limit p q c apart is f =
    (f.0, f.1, f.2, f.3, (λ t. absurd (wrong halted ((f.4 t).1) is)))
  where
    wrong : (b : Bool) → b ≡ true → Answers b given h p Limit → ⊥
    wrong true e k = cc
    wrong false e k = off e
fits_after given h halted Early p q c apart is f =
    (f.0, f.1, f.2, f.3, (λ t. absurd (wrong halted ((f.4 t).1) is)))
  where
    wrong : (b : Bool) → b ≡ true → Answers b given h p Early → ⊥
    wrong true e k = cc
    wrong false e k = off e
fits_after given h halted Overflow p q c apart is f = (f.0, f.1, f.2, f.3, (λ t. ((f.4 t).0, refl)))

-- one act: the machine's turn, and a new card for p
pub lists_after : (at : Position) (to : Position) (turn : RunTurn) (p : ℕ) (c : Card) (cards : List Listed) (v : View)
    → to.given ≡ at.given → Answers at.halted at.given at.history p turn → to.history ≡ after_turn turn at.history p → to.halted ≡ is_overflow turn
    → slice_get cards p ≡ Some (listed c true) → AllFit at.given at.history at.halted cards → v ≡ gives p (card_at to) (keeper (set cards p (listed c false))) → Lists to v
lists_after at to turn p c cards v game_is turn_is history_is halted_is there all v_is =
    let inner : List Listed = set cards p (listed c false) in
    let now : List Listed = set inner p (listed (card_at to) true) in (
      now,
      v_is,
      (
        length-set inner p _ ∙ (length-set cards p _ ∙ (all.0 ∙ ap (λ (g : Given). process_count g.outline) (sym game_is))),
        λ q x e. ⊎_elim
            (λ (t : (eqb q p ≡ true) × (q ≡ p)).
            let new = slice_get_set_same inner p (listed c false) (listed (card_at to) true) (slice_get_set_same cards p (listed c true) (listed c false) there) in
            let same : listed (card_at to) true ≡ x = same_some _ _ (sym new ∙ (ap (λ k. slice_get now k) (sym t.1) ∙ e)) in
            subst (λ (y : Listed). CardFits to.given to.history to.halted q y.card) same (refl, [], sym (append-nil to.history), refl, λ h. (refl, h)))
            (λ (t : (eqb q p ≡ false) × (q ≢ p)).
            let old : slice_get cards q ≡ Some x = sym (slice_get_set_other cards p q (listed c false) t.1) ∙ (sym (slice_get_set_other inner p q (listed (card_at to) true) t.1) ∙ e) in
            let f = fits_after at.given at.history at.halted turn p q x.card t.1 turn_is (all.1 q x old) in
            subst (λ (g : Given). CardFits g to.history to.halted q x.card) (sym game_is)
            (subst (λ (h : List ℕ). CardFits at.given h to.halted q x.card) (sym history_is)
            (subst (λ (b : Bool). CardFits at.given (after_turn turn at.history p) b q x.card) (sym halted_is) f)))
            (eqb_tells q p),
      ),
    )

acts_free : (p : ℕ) (c : Card) (given : Given) (h : List ℕ) (turn : RunTurn) (d : Card) → CardFits given h false p c → IsTurn given h p turn → d.given ≡ given → d.heard ≡ after_turn turn h p → d.halted ≡ is_overflow turn
    → (turn ≡ Overflow → SomeOverflows given h) → Acts p c turn d
acts_free p c given h turn d f is given_is heard_is halted_is over =
    let g_is = f.0 in
    let h_is = f.2 in
    let not_told : c.halted ≡ false = none_told c.halted (λ t. off ((f.4 t).1)) in
    let turned : IsTurn c.given (c.heard ++ f.1) p turn = subst (λ (z : Given × List ℕ). IsTurn z.0 z.1 p turn) (λ i. (sym g_is i, h_is i)) is in
    let heard : d.heard ≡ after_turn turn (c.heard ++ f.1) p = heard_is ∙ ap (λ l. after_turn turn l p) h_is in
    (given_is ∙ sym g_is, f.1, f.3, cases turn turned heard halted_is (λ e. subst (λ (z : Given × List ℕ). SomeOverflows z.0 z.1) (λ i. (sym g_is i, h_is i)) (over e)) not_told)
  where
    none_told : (b : Bool) → (b ≡ true → ⊥) → b ≡ false
    none_told true h = absurd (h refl)
    none_told false h = refl

    cases : (t : RunTurn) → IsTurn c.given (c.heard ++ f.1) p t → d.heard ≡ after_turn t (c.heard ++ f.1) p → d.halted ≡ is_overflow t → (t ≡ Overflow → SomeOverflows c.given (c.heard ++ f.1)) → c.halted ≡ false
        → ((c.halted ≡ false) × IsTurn c.given (c.heard ++ f.1) p t × (is_overflow t ≡ false) × (d.halted ≡ false) × (d.heard ≡ after_turn t (c.heard ++ f.1) p))
        ⊎ ((t ≡ Overflow) × (d.halted ≡ true) × (d.heard ≡ c.heard ++ f.1) × SomeOverflows c.given (c.heard ++ f.1))
    cases Moved e k l o n = inl (n, e, refl, l, k)
    cases Waits e k l o n = inl (n, e, refl, l, k)
    cases Done e k l o n = inl (n, e, refl, l, k)
    cases Stuck e k l o n = inl (n, e, refl, l, k)
    cases Limit e k l o n = inl (n, e, refl, l, k)
    cases Early e k l o n = inl (n, e, refl, l, k)
    cases Overflow e k l o n = inr (refl, l, k, o refl)

acts_halted : (p : ℕ) (c : Card) (given : Given) (h : List ℕ) (halted : Bool) (turn : RunTurn) (d : Card) → CardFits given h halted p c → turn ≡ Overflow → d.given ≡ given → d.heard ≡ after_turn turn h p → d.halted ≡ is_overflow turn
    → (turn ≡ Overflow → SomeOverflows given h) → Acts p c turn d
acts_halted p c given h halted turn d f is given_is heard_is halted_is over =
    let g_is = f.0 in
    let h_is = f.2 in
    (given_is ∙ sym g_is, f.1, f.3, inr (is, halted_is ∙ ap is_overflow is, heard_is ∙ ap (λ t. after_turn t h p) is ∙ h_is, subst (λ (z : Given × List ℕ). SomeOverflows z.0 z.1) (λ i. (sym g_is i, h_is i)) (over is)))

pub acts_by : (p : ℕ) (c : Card) (given : Given) (h : List ℕ) (halted : Bool) (turn : RunTurn) (d : Card) → CardFits given h halted p c → Answers halted given h p turn → d.given ≡ given → d.heard ≡ after_turn turn h p → d.halted ≡ is_overflow turn
    → (turn ≡ Overflow → SomeOverflows given h) → Acts p c turn d
acts_by p c given h true turn d f is = acts_halted p c given h true turn d f is
acts_by p c given h false turn d f is = acts_free p c given h turn d f is

-- the card that the arena lists of p fits
pub fits_listed : (at : Position) (cards : List Listed) (p : ℕ) (c : Card) → AllFit at.given at.history at.halted cards → slice_get cards p ≡ Some (listed c true) → (p < process_count at.given.outline) × CardFits at.given at.history at.halted p c
fits_listed at cards p c all there = let within = slice_get_within cards p (listed c true) there in let len = all.0 in (omega arith, all.1 p (listed c true) there)

-- the answer to taking a card in, about the cards and the process
pub listed_there : (cards : List Listed) (p : ℕ) (k w : View) → k ≡ keeper cards → w ≡ holder p w.card → slice_get k.cards w.process ≡ Some (listed w.card true) → slice_get cards p ≡ Some (listed w.card true)
listed_there cards p k w k_is w_is there = subst (λ (q : ℕ). slice_get cards q ≡ Some (listed w.card true)) (ap (λ (v : View). v.process) w_is) (subst (λ (v : View). slice_get v.cards w.process ≡ Some (listed w.card true)) k_is there)

pub keeper_there : (cards : List Listed) (p : ℕ) (k w after : View) → k ≡ keeper cards → w ≡ holder p w.card → after ≡ keeper (slice_set k.cards w.process (listed w.card false)) → after ≡ keeper (set cards p (listed w.card false))
keeper_there cards p k w after k_is w_is is = is ∙ (λ i. keeper (slice_set (k_is i).cards (ap (λ (v : View). v.process) w_is i) (listed w.card false)))

pub inside : (cards : List Listed) (p : ℕ) (c : Card) (after : View) → slice_get cards p ≡ Some (listed c true) → after ≡ keeper (set cards p (listed c false)) → (x : Listed) × (slice_get after.cards p ≡ Some x) × (x.out ≡ false)
inside cards p c after is after_is = (listed c false, ap (λ (v : View). slice_get v.cards p) after_is ∙ slice_get_set_same cards p (listed c true) (listed c false) is, refl)
