-- The trail of bounds.
use Rattle.std.proofs.Common.{◌≡◌, ℕ, ◌≤◌, List, [], ◌∷◌, ◌++◌, length, get_or, take, drop, refl, sym, ap, subst, ◌∙◌, arith, length-append, min}
use Rattle.std.specs.Prelude.{slice_set}
use Rattle.std.proofs.lemmas.List.{set-set, set-get_or, drop-append-le, take-append-le, take-append-drop, length-take}
use Rattle.og_search_rows.specs.declared.bounds.Interval.{Interval}
use Rattle.og_search_rows.specs.declared.bounds.Before.{Before}
use Rattle.og_search_rows.specs.Bounds.{BoundsValue, whole, undone, rewound, LeadsBack}

-- the last one is put back first
undone-last : (es : List Before) (e : Before) (b : List Interval) → undone (es ++ e ∷ []) b ≡ undone es (slice_set b e.var e.interval)
undone-last [] e b = refl
undone-last (x ∷ es) e b = ap (λ c. slice_set c x.var x.interval) (undone-last es e b)

-- one is put back, and then the others from place n on
pub undone-pop : (n : ℕ) (es rest : List Before) (e : Before) (b : List Interval) → es ≡ rest ++ e ∷ [] → n ≤ length rest → undone (drop n rest) (slice_set b e.var e.interval) ≡ undone (drop n es) b
undone-pop n es rest e b is h =
    sym (undone-last (drop n rest) e b) ∙ ap (λ xs. undone xs b) (sym (drop-append-le n rest (e ∷ []) h) ∙ ap (drop n) (sym is))

pub take-pop : {A : Type 0} (n : ℕ) (es rest : List A) (e : A) → es ≡ rest ++ e ∷ [] → n ≤ length rest → take n rest ≡ take n es
take-pop n es rest e is h = sym (take-append-le n rest (e ∷ []) h) ∙ ap (take n) (sym is)

-- where an interval was replaced and noted, the bounds go back to what they went back to
pub leads_back : (old new : BoundsValue) (x : ℕ) (i : Interval) → new.intervals ≡ slice_set old.intervals x i → new.trail ≡ old.trail ++ (record { var = x; interval = get_or old.intervals x whole }) ∷ [] → LeadsBack new old
leads_back old new x i set noted =
    let before : Before = record { var = x; interval = get_or old.intervals x whole } in
    let back : slice_set new.intervals x before.interval ≡ old.intervals =
    ap (λ b. slice_set b x before.interval) set ∙ (set-set old.intervals x i before.interval ∙ set-get_or old.intervals x whole) in
    record {
      longer = subst (λ es. length old.trail ≤ length es) (sym noted) (search (arith, length-append));
      same = λ n h. sym (undone-pop n new.trail old.trail before new.intervals noted h) ∙ ap (undone (drop n old.trail)) back;
    }

undone-append : (es fs : List Before) (b : List Interval) → undone (es ++ fs) b ≡ undone es (undone fs b)
undone-append [] fs b = refl
undone-append (e ∷ es) fs b = ap (λ c. slice_set c e.var e.interval) (undone-append es fs b)

-- bounds that went back lead on back to what they led to
pub rewound_again : (old new : BoundsValue) (n : ℕ) → new.intervals ≡ rewound n old → new.trail ≡ take n old.trail → LeadsBack old new
rewound_again old new n back cut =
    let front = take n old.trail in
    let least : min n (length old.trail) ≤ length old.trail = omega arith in
    record {
      longer = subst (λ es. length es ≤ length old.trail) (sym cut) (subst (λ k. k ≤ length old.trail) (sym (length-take n old.trail)) least);
      same = λ m h.
          let h' = subst (λ es. m ≤ length es) cut h in
          ap (λ es. undone (drop m es) old.intervals) (sym (take-append-drop n old.trail))
          ∙ (ap (λ es. undone es old.intervals) (drop-append-le m front (drop n old.trail) h')
          ∙ (undone-append (drop m front) (drop n old.trail) old.intervals
          ∙ (ap (undone (drop m front)) (sym back)
          ∙ ap (λ es. undone (drop m es) new.intervals) (sym cut))));
    }

pub leads_back_same : (b : BoundsValue) → LeadsBack b b
leads_back_same b = record { longer = omega arith; same = λ n h. refl }

pub leads_back_on : (a b c : BoundsValue) → LeadsBack b a → LeadsBack c b → LeadsBack c a
leads_back_on a b c first second =
    let here = first.longer in
    let there = second.longer in
    record {
      longer = omega arith;
      same = λ n h. second.same n (omega arith) ∙ first.same n h;
    }
