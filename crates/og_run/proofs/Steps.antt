-- Each step keeps the rule of the seats.
use Rattle.std.proofs.Common.{◌≡◌, ◌≢◌, ◌⊎◌, ℕ, zero, suc, true, false, true≢false, List, [], ◌∷◌, ◌++◌, length, set, refl, sym, ap, ◌∙◌, subst, ⊎_elim, inl, inr, length-set, Some}
use Rattle.std.specs.Prelude.{slice_get}
use mathlib.Core.Option.{some, none, some-ne-none, some-injective}
use lib.ListN.{get_elem?}
use Rattle.atomic_table.specs.Table.{Me, step, keeps, Allows, Splits, Joins, opening}
use Rattle.atomic_table.proofs.Lists.{at_set}
use Rattle.og_run.specs.Runs.{Given}
use Rattle.og_run.specs.declared.rule.Card.{Card}
use Rattle.og_run.specs.declared.rule.Listed.{Listed}
use Rattle.og_run.specs.declared.rule.View.{View}
use Rattle.og_run.specs.Cards.{listed, keeper, holder, with_card, nobody, unstarted_cards, Fits, Kept, gives, Confirms}

pub off : false ≡ true → ⊥
off e = true≢false (sym e)

pub slice_get_set_same : (xs : List Listed) (p : ℕ) (x y : Listed) → slice_get xs p ≡ Some x → slice_get (set xs p y) p ≡ Some y
slice_get_set_same [] p x y e = absurd (cc)
slice_get_set_same (z ∷ xs) zero x y e = refl
slice_get_set_same (z ∷ xs) (suc p) x y e = slice_get_set_same xs p x y e

pub slice_get_set_other : (xs : List Listed) (p q : ℕ) (y : Listed) → q ≢ p → slice_get (set xs p y) q ≡ slice_get xs q
slice_get_set_other [] p q y apart = refl
slice_get_set_other (z ∷ xs) zero zero y apart = absurd (apart refl)
slice_get_set_other (z ∷ xs) zero (suc q) y apart = refl
slice_get_set_other (z ∷ xs) (suc p) zero y apart = refl
slice_get_set_other (z ∷ xs) (suc p) (suc q) y apart = slice_get_set_other xs p q y (λ e. apart (ap suc e))

pub same_some : (x y : Listed) → Some x ≡ Some y → x ≡ y
same_some x y e = cc

at_end : (l : List View) (a b : View) (j : ℕ) → get_elem? (l ++ a ∷ []) j ≡ some b → (get_elem? l j ≡ some b) ⊎ ((j ≡ length l) × (a ≡ b))
at_end [] a b zero e = inr (refl, some-injective a b e)
at_end [] a b (suc j) e = absurd (some-ne-none b (sym e))
at_end (x ∷ xs) a b zero e = inl e
at_end (x ∷ xs) a b (suc j) e = ⊎_elim (λ h. inl h) (λ (t : (j ≡ length xs) × (a ≡ b)). inr (ap suc t.0, t.1)) (at_end xs a b j e)

abbrev At : List View → ℕ → View → Type 0
At views j u = get_elem? views j ≡ some u

fits_set : (seat : ℕ) (cards : List Listed) (views : List View) (by : ℕ) (w : View) → ((j : ℕ) (u : View) → j ≢ by → At views j u → Fits seat cards j u) → Fits seat cards by w → (j : ℕ) (u : View) → At (set views by w) j u → Fits seat cards j u
fits_set seat cards views by w others mine j u e = ⊎_elim
    (λ (t : (j ≡ by) × (w ≡ u)). subst (λ (y : ℕ × View). Fits seat cards y.0 y.1) (λ i. (sym t.0 i, t.1 i)) mine)
    (λ (t : (j ≢ by) × At views j u). others j u t.0 t.1)
    (at_set views by j w u e)

-- no other view holds w's process
abbrev Apart : List View → ℕ → View → Type 0
Apart views by w = (j : ℕ) (u : View) → j ≢ by → At views j u → w.holds ≡ true → u.holds ≡ true → w.process ≡ u.process → ⊥

abbrev Alone : List View → Type 0
Alone views = (by other : ℕ) (v w : View) → At views by v → At views other w → v.holds ≡ true → w.holds ≡ true → v.process ≡ w.process → by ≡ other

alone_set : (views : List View) (id : ℕ) (w : View)
    → ((by other : ℕ) (v u : View) → by ≢ id → other ≢ id → At views by v → At views other u → v.holds ≡ true → u.holds ≡ true → v.process ≡ u.process → by ≡ other)
    → Apart views id w → Alone (set views id w)
alone_set views id w others apart by other v u e f hv hu same = ⊎_elim
    (λ (t : (by ≡ id) × (w ≡ v)). ⊎_elim
    (λ (q : (other ≡ id) × (w ≡ u)). t.0 ∙ sym q.0)
    (λ (q : (other ≢ id) × At views other u). absurd (apart other u q.0 q.1 (ap (λ (z : View). z.holds) t.1 ∙ hv) hu (ap (λ (z : View). z.process) t.1 ∙ same)))
    (at_set views id other w u f))
    (λ (t : (by ≢ id) × At views by v). ⊎_elim
    (λ (q : (other ≡ id) × (w ≡ u)). absurd (apart by v t.0 t.1 (ap (λ (z : View). z.holds) q.1 ∙ hu) hv (ap (λ (z : View). z.process) q.1 ∙ sym same)))
    (λ (q : (other ≢ id) × At views other u). others by other v u t.0 q.0 t.1 q.1 hv hu same)
    (at_set views id other w u f))
    (at_set views id by w v e)

pub confirms_keep : (given : Given) (slots id : ℕ) (me : Me (Unit {0}) View) → me.0.keeps ≡ true → me.0.holds ≡ true → Allows (Kept given) slots id me 0 (λ n. n) (Confirms (step slots 0 0 0 none) me)
confirms_keep given slots id me keeps_all has s r wide at small =
    let v : View = me.0 in
    let p : ℕ = v.process in
    let mine = r.fits id v at in
    let here = mine.0 keeps_all in
    let there = mine.1 has in
    let there_now : slice_get v.cards p ≡ Some (listed v.card true) = subst (λ (l : List Listed). slice_get l p ≡ Some (listed v.card true)) (sym here.1) there in
    let cards : List Listed = set v.cards p (listed v.card false) in
    let w : View = keeper cards in (
      w,
      keeps,
      tt,
      record {
        one_word = length-set s.words 0 _ ∙ r.one_word;
        seat = r.seat;
        cards = cards;
        fits = fits_set r.seat cards s.views id w
            (λ j u apart e. let old = r.fits j u e in (
              (λ k. absurd (apart ((old.0 k).0 ∙ sym here.0))),
              (λ h. slice_get_set_other v.cards p u.process (listed v.card false) (λ same. apart (r.alone j id u v e at h has same)) ∙ (ap (λ (l : List Listed). slice_get l u.process) here.1 ∙ old.1 h)),
            ))
            ((λ _. (here.0, refl)), (λ h. absurd (off h)));
        alone = alone_set s.views id w (λ by other a b _ _ e f. r.alone by other a b e f) (λ j u _ _ h _ _. off h);
      },
      (there_now, refl),
    )

pub takes_keep : (given : Given) (id : ℕ) (v : View) (other : ℕ) (w : View) → v.keeps ≡ true → w.keeps ≡ false → Joins (Kept given) id v other w (with_card v w) nobody
takes_keep given id v other w keeps_all none_kept s r at apart there =
    let b : View = with_card v w in
    let vs : List View = set s.views id b in
    let before : At s.views other w = ⊎_elim (λ (t : (other ≡ id) × (b ≡ w)). absurd (apart t.0)) (λ (t : (other ≢ id) × At s.views other w). t.1) (at_set s.views id other b w there) in
    let mine = r.fits id v at in
    let theirs = r.fits other w before in record {
      one_word = r.one_word;
      seat = r.seat;
      cards = r.cards;
      fits = fits_set r.seat r.cards vs other nobody
          (λ j u _ e. fits_set r.seat r.cards s.views id b (λ i y _ f. r.fits i y f) (mine.0, theirs.1) j u e)
          ((λ k. absurd (off k)), (λ h. absurd (off h)));
      alone = alone_set vs other nobody
          (λ by far a u not_by not_far e f ha hu same. ⊎_elim
          (λ (t : (by ≡ id) × (b ≡ a)). ⊎_elim
          (λ (q : (far ≡ id) × (b ≡ u)). t.0 ∙ sym q.0)
          (λ (q : (far ≢ id) × At s.views far u). absurd (not_far (sym (r.alone other far w u before q.1 (ap (λ (z : View). z.holds) t.1 ∙ ha) hu (ap (λ (z : View). z.process) t.1 ∙ same)))))
          (at_set s.views id far b u f))
          (λ (t : (by ≢ id) × At s.views by a). ⊎_elim
          (λ (q : (far ≡ id) × (b ≡ u)). absurd (not_by (sym (r.alone other by w a before t.1 (ap (λ (z : View). z.holds) q.1 ∙ hu) ha (ap (λ (z : View). z.process) q.1 ∙ sym same)))))
          (λ (q : (far ≢ id) × At s.views far u). r.alone by far a u t.1 q.1 ha hu same)
          (at_set s.views id far b u f))
          (at_set s.views id by b a e))
          (λ j u _ _ h _ _. off h);
    }

pub gives_keep : (given : Given) (id : ℕ) (v : View) (p : ℕ) (c : Card) (x : Listed) → v.keeps ≡ true → v.holds ≡ false → slice_get v.cards p ≡ Some x → x.out ≡ false → Splits (Kept given) id v (gives p c v) (holder p c)
gives_keep given id v p c x keeps_all free is inside s r at =
    let cards : List Listed = set v.cards p (listed c true) in
    let l : View = gives p c v in
    let g : View = holder p c in
    let here = (r.fits id v at).0 keeps_all in
    let vs : List View = set s.views id l in
    -- no view holds p
    let none_holds : (j : ℕ) (u : View) → At s.views j u → u.holds ≡ true → u.process ≡ p → ⊥ = λ j u e h same.
    let there = (r.fits j u e).1 h in
    let listed_there : slice_get v.cards p ≡ Some (listed u.card true) = subst (λ (q : ℕ). slice_get v.cards q ≡ Some (listed u.card true)) same (subst (λ (z : List Listed). slice_get z u.process ≡ Some (listed u.card true)) (sym here.1) there) in
    let one = same_some x (listed u.card true) (sym is ∙ listed_there) in
    true≢false (sym (ap (λ (z : Listed). z.out) one) ∙ inside) in
    let old_none : (j : ℕ) (u : View) → At vs j u → u.holds ≡ true → u.process ≡ p → ⊥ = λ j u e h same. ⊎_elim
    (λ (t : (j ≡ id) × (l ≡ u)). off (sym free ∙ (ap (λ (z : View). z.holds) t.1 ∙ h)))
    (λ (t : (j ≢ id) × At s.views j u). none_holds j u t.1 h same)
    (at_set s.views id j l u e) in
    let alone_there : Alone vs = alone_set s.views id l (λ by other a b _ _ e f. r.alone by other a b e f) (λ j u _ _ h _ _. off (sym free ∙ h)) in record {
      one_word = r.one_word;
      seat = r.seat;
      cards = cards;
      fits = λ j u e. ⊎_elim
          (λ (b : At vs j u). fits_set r.seat cards s.views id l
          (λ i y apart f. let old = r.fits i y f in (
            (λ k. absurd (apart ((old.0 k).0 ∙ sym here.0))),
            (λ h. slice_get_set_other v.cards p y.process (listed c true) (λ same. none_holds i y f h same) ∙ (ap (λ (z : List Listed). slice_get z y.process) here.1 ∙ old.1 h)),
          ))
          ((λ _. (here.0, refl)), (λ h. absurd (off (sym free ∙ h)))) j u b)
          (λ (b : (j ≡ length vs) × (g ≡ u)). subst (Fits r.seat cards j) b.1 ((λ k. absurd (off k)), (λ _. slice_get_set_same v.cards p x (listed c true) is)))
          (at_end vs g u j e);
      alone = λ by other a b e f ha hb same. ⊎_elim
          (λ (t : At vs by a). ⊎_elim
          (λ (q : At vs other b). alone_there by other a b t q ha hb same)
          (λ (q : (other ≡ length vs) × (g ≡ b)). absurd (old_none by a t ha (same ∙ sym (ap (λ (z : View). z.process) q.1))))
          (at_end vs g b other f))
          (λ (t : (by ≡ length vs) × (g ≡ a)). ⊎_elim
          (λ (q : At vs other b). absurd (old_none other b q hb (sym same ∙ sym (ap (λ (z : View). z.process) t.1))))
          (λ (q : (other ≡ length vs) × (g ≡ b)). t.0 ∙ sym q.0)
          (at_end vs g b other f))
          (at_end vs g a by e);
    }

pub begins : (given : Given) → Kept given (opening (0 ∷ []) [] (keeper (unstarted_cards given)))
begins given = record {
  one_word = refl;
  seat = 0;
  cards = unstarted_cards given;
  fits = first;
  alone = λ by other v w e f hv hw _. absurd (none_held by v e hv);
}
  where
    first : (by : ℕ) (v : View) → At (keeper (unstarted_cards given) ∷ []) by v → Fits 0 (unstarted_cards given) by v
    first zero v e = subst (Fits 0 (unstarted_cards given) 0) (some-injective _ _ e) ((λ _. (refl, refl)), (λ h. absurd (off h)))
    first (suc by) v e = absurd (some-ne-none v (sym e))

    none_held : (by : ℕ) (v : View) → At (keeper (unstarted_cards given) ∷ []) by v → v.holds ≡ true → ⊥
    none_held zero v e h = off (ap (λ (z : View). z.holds) (some-injective _ _ e) ∙ h)
    none_held (suc by) v e h = some-ne-none v (sym e)
