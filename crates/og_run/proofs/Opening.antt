-- Handing out the first seats.
use Rattle.std.proofs.Common.{◌≡◌, ◌≢◌, ◌⊎◌, ℕ, zero, suc, ◌+◌, ◌<◌, Bool, true, false, List, [], ◌∷◌, ◌++◌, length, set, replicate, refl, sym, ap, ◌∙◌, ⊎_elim, inl, inr, arith, length-set, length-append, Some, append-nil, eqb}
use Rattle.std.specs.Prelude.{slice_get}
use Rattle.std.proofs.lemmas.Bool.Decides.{eqb_tells}
use Rattle.std.proofs.Math.ListN.{length-replicate}
use Rattle.og_run.specs.Runs.{Given}
use Rattle.og_run.specs.Histories.{process_count}
use Rattle.og_run.specs.declared.rule.Listed.{Listed}
use Rattle.og_run.specs.declared.rule.View.{View}
use Rattle.og_run.specs.Cards.{Place, card, listed, keeper, gives, unstarted_cards, Lists, Handed, FirstSeats}
use Rattle.og_run.proofs.Steps.{same_some, slice_get_set_same, slice_get_set_other}

pub there_is : (xs : List Listed) (p : ℕ) → p < length xs → (x : Listed) × (slice_get xs p ≡ Some x)
there_is [] p h = absurd (omega arith)
there_is (x ∷ xs) zero h = (x, refl)
there_is (x ∷ xs) (suc p) h = there_is xs p (omega arith)

all_same : (n : ℕ) (y : Listed) (q : ℕ) (x : Listed) → slice_get (replicate n y) q ≡ Some x → y ≡ x
all_same zero y q x e = absurd (cc)
all_same (suc n) y zero x e = same_some y x e
all_same (suc n) y (suc q) x e = all_same n y q x e

pub handed_first : (given : Given) → Handed given 0 (keeper (unstarted_cards given))
handed_first given = (
  unstarted_cards given,
  refl,
  length-replicate (process_count given.outline) (listed (card given [] false) false),
  λ q x e. let same = all_same (process_count given.outline) (listed (card given [] false) false) q x e in
      (ap (λ (l : Listed). l.card) (sym same), λ _. ap (λ (l : Listed). l.out) (sym same)),
)

pub handed_inside : (given : Given) (p : ℕ) (v : View) → Handed given p v → p < process_count given.outline → (x : Listed) × (slice_get v.cards p ≡ Some x) × (x.out ≡ false)
handed_inside given p v h less =
    let len = h.2 in
    let x = there_is h.0 p (omega arith) in
    let out : x.0.out ≡ false = (h.3 p x.0 x.1).1 (omega arith) in
    (x.0, ap (λ (z : View). slice_get z.cards p) h.1 ∙ x.1, out)

pub handed_next : (given : Given) (p : ℕ) (v w : View) → Handed given p v → p < process_count given.outline → w ≡ gives p (card given [] false) v → Handed given (p + 1) w
handed_next given p v w h less is =
    let c = listed (card given [] false) true in
    let len = h.2 in
    let x = there_is h.0 p (omega arith) in (
      set h.0 p c,
      is ∙ ap (gives p (card given [] false)) h.1,
      length-set h.0 p c ∙ len,
      λ q y e. ⊎_elim
          (λ (t : (eqb q p ≡ true) × (q ≡ p)).
          let same = same_some c y (sym (slice_get_set_same h.0 p x.0 c x.1) ∙ (ap (λ k. slice_get (set h.0 p c) k) (sym t.1) ∙ e)) in
          (ap (λ (l : Listed). l.card) (sym same), λ far. let k = t.1 in absurd (omega arith)))
          (λ (t : (eqb q p ≡ false) × (q ≢ p)).
          let old = h.3 q y (sym (slice_get_set_other h.0 p q c t.1) ∙ e) in (old.0, λ far. old.1 (omega arith)))
          (eqb_tells q p),
    )

pub handed_lists : (given : Given) (history : List ℕ) (halted : Bool) (p : ℕ) (v : View) → history ≡ [] → Handed given p v → Lists (record { given = given; history = history; halted = halted }) v
handed_lists given history halted p v none h = (
  h.0,
  h.1,
  (
    h.2,
    λ q x e. let c = (h.3 q x e).0 in (
      ap (λ z. z.given) c,
      [],
      none ∙ sym (append-nil x.card.heard ∙ ap (λ z. z.heard) c),
      refl,
      λ t. absurd (wrong x.card.halted (ap (λ z. z.halted) c) t),
    ),
  ),
)
  where
    wrong : (b : Bool) → b ≡ false → b ≡ true → ⊥
    wrong true e f = cc
    wrong false e f = cc

slice_get_last : (xs : List Place) (y : Place) (q : ℕ) (s : Place) → slice_get (xs ++ y ∷ []) q ≡ Some s → (slice_get xs q ≡ Some s) ⊎ ((q ≡ length xs) × (y ≡ s))
slice_get_last [] y zero s e = inr (refl, some_place y s e)
  where
    some_place : (a b : Place) → Some a ≡ Some b → a ≡ b
    some_place a b e = cc
slice_get_last [] y (suc q) s e = absurd (cc)
slice_get_last (x ∷ xs) y zero s e = inl e
slice_get_last (x ∷ xs) y (suc q) s e = ⊎_elim (λ h. inl h) (λ (t : (q ≡ length xs) × (y ≡ s)). inr (ap suc t.0, t.1)) (slice_get_last xs y q s e)

pub first_seats_push : (given : Given) (p : ℕ) (seats now : List Place) (s : Place) → FirstSeats given p seats → now ≡ seats ++ s ∷ [] → s.process ≡ p → s.card ≡ card given [] false → FirstSeats given (p + 1) now
first_seats_push given p seats now s h is process_is card_is = rw is (
  (let len = h.0 in omega (arith, length-append seats (s ∷ []))),
  λ q t e. ⊎_elim
      (λ (old : slice_get seats q ≡ Some t). h.1 q t old)
      (λ (new : (q ≡ length seats) × (s ≡ t)). (ap (λ (z : Place). z.process) (sym new.1) ∙ (process_is ∙ sym (new.0 ∙ h.0)), ap (λ (z : Place). z.card) (sym new.1) ∙ card_is))
      (slice_get_last seats s q t e),
)
