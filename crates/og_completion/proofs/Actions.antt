-- A completed action does to the old variables what the old action does.
use Rattle.std.proofs.Common.{◌≡◌, ℕ, ◌≤◌, ℤ, pos, List, [], ◌∷◌, ◌++◌, filter, take, length, Bool, true, false, ◌&&◌, cond, if◌then◌else◌, nat_lt, refl, sym, ap, ap₂, ◌∙◌, subst, get_or-take, ⊎_elim, append-nil, arith}
use Rattle.std.specs.Prelude.{⊤}
use Rattle.std.specs.List.{AllByRecursion}
use Rattle.std.proofs.lemmas.Int.{ints}
use Rattle.std.proofs.lemmas.Bool.{both_ways, cases_lt, lt-ltb, le-ltb, ltb-true, ltb-false}
use Rattle.std.proofs.lemmas.List.Elements.{All-nil, recursion_from_All}
use Rattle.og_linear.proofs.Put.{put_long, take_put, take_put_past}
use Rattle.og_linear.specs.Linear.{FormValue, form_value, put, val, fits_i64}
use Rattle.og_typed.specs.Syntax.{Formula, Simple, Pass, Set}
use Rattle.og_typed.specs.Truth.{truth}
use Rattle.og_typed.specs.Machine.{act, all_fit}
use Rattle.og_typed.specs.Rule.{IsUsable, IsUsableSimple, is_usable_form, IsPlainForm}
use Rattle.og_typed.specs.Erase.{is_kept}
use Rattle.og_typed.proofs.Below.{usable_plain, usable_terms, plain_form}
use Rattle.og_typed.proofs.Frame.{same_value}
use Rattle.og_typed.proofs.Erasing.{plain_truth}
use Rattle.og_completion.specs.Completes.{IsMark, BodyCompletes}

-- an assignment to a new variable sets it to a number
abbrev IsQuiet : ℕ → Simple → Type 0
IsQuiet n Pass = ⊤
IsQuiet n (Set x e) = nat_lt x n ≡ false → (v : ℤ) × (e ≡ form_value [] v) × (fits_i64 v ≡ true)

module _ (n : ℕ) where
  -- what is read of the first n variables does not depend on the others
  pub truth_before : (a : Formula) (s : List ℤ) → IsUsable n a → truth a s ≡ truth a (take n s)
  truth_before a s usable = sym (plain_truth n a s (λ x le. usable_plain n x le a usable))

  form_plain : (e : FormValue) → is_usable_form n e ≡ true → IsPlainForm n e
  form_plain e usable x le = plain_form n e.terms x (usable_terms n e usable) le

  value_before : (e : FormValue) (s : List ℤ) → is_usable_form n e ≡ true → val e s ≡ val e (take n s)
  value_before e s usable =
      sym (same_value e (take n s) s (λ x h. ⊎_elim (λ lt. get_or-take n s x (pos 0) lt) (λ le. absurd (both_ways _ (form_plain e usable x le) h)) (cases_lt x n)))

  -- a number is a number
  number_value : (v : ℤ) (s : List ℤ) → val (form_value [] v) s ≡ v
  number_value v s = omega (arith, ints)

  pub put_still : (x : ℕ) (v : ℤ) (s : List ℤ) → n ≤ length s → n ≤ length (put s x v)
  put_still x v s long = let more = put_long s x v in omega (arith, long, more)

  -- the two states after an assignment to an old variable
  put_both : (x : ℕ) (e : FormValue) (s : List ℤ) → nat_lt x n ≡ true → is_usable_form n e ≡ true → take n (put s x (val e s)) ≡ put (take n s) x (val e (take n s))
  put_both x e s lt usable = take_put n s x (val e s) (ltb-true x n lt) ∙ ap (put (take n s) x) (value_before e s usable)

  abbrev pub Kept : List Simple → List Simple
  Kept body = filter (is_kept n) body

  -- the values of the completed action fit where those of the old one do
  pub fits_same : (body : List Simple) (s : List ℤ) → n ≤ length s → AllByRecursion (IsUsableSimple n) (Kept body) → AllByRecursion (IsQuiet n) body → all_fit body s ≡ all_fit (Kept body) (take n s)
  fits_same [] s long usable marks = refl
  fits_same (Pass ∷ rest) s long usable marks = fits_same rest s long usable.1 marks.1
  fits_same (Set x e ∷ rest) s long usable marks =
      go (nat_lt x n) refl usable (λ u. fits_same rest (put s x (val e s)) (put_still x (val e s) s long) u marks.1)
    where
      go : (b : Bool) → nat_lt x n ≡ b → AllByRecursion (IsUsableSimple n) (cond b (Set x e ∷ Kept rest) (Kept rest))
          → (AllByRecursion (IsUsableSimple n) (Kept rest) → all_fit rest (put s x (val e s)) ≡ all_fit (Kept rest) (take n (put s x (val e s))))
          → (fits_i64 (val e s) && all_fit rest (put s x (val e s))) ≡ all_fit (cond b (Set x e ∷ Kept rest) (Kept rest)) (take n s)
      go true k u rec =
          ap₂ ◌&&◌ (ap fits_i64 (value_before e s u.0.1)) (rec u.1 ∙ ap (all_fit (Kept rest)) (put_both x e s k u.0.1))
      go false k u rec =
          let mark = marks.0 k in
          let fit : fits_i64 (val e s) ≡ true = ap (λ f. fits_i64 (val f s)) mark.1 ∙ ap fits_i64 (number_value mark.0 s) ∙ mark.2 in
          ap (λ b. b && all_fit rest (put s x (val e s))) fit
          ∙ rec u
          ∙ ap (all_fit (Kept rest)) (take_put_past n s x (val e s) (ltb-false x n k) long)

  -- and it does the same to the old variables
  pub act_same : (body : List Simple) (s : List ℤ) → n ≤ length s → AllByRecursion (IsUsableSimple n) (Kept body) → take n (act body s) ≡ act (Kept body) (take n s)
  act_same [] s long usable = refl
  act_same (Pass ∷ rest) s long usable = act_same rest s long usable.1
  act_same (Set x e ∷ rest) s long usable =
      go (nat_lt x n) refl usable (λ u. act_same rest (put s x (val e s)) (put_still x (val e s) s long) u)
    where
      go : (b : Bool) → nat_lt x n ≡ b → AllByRecursion (IsUsableSimple n) (cond b (Set x e ∷ Kept rest) (Kept rest))
          → (AllByRecursion (IsUsableSimple n) (Kept rest) → take n (act rest (put s x (val e s))) ≡ act (Kept rest) (take n (put s x (val e s))))
          → take n (act rest (put s x (val e s))) ≡ act (cond b (Set x e ∷ Kept rest) (Kept rest)) (take n s)
      go true k u rec = rec u.1 ∙ ap (act (Kept rest)) (put_both x e s k u.0.1)
      go false k u rec = rec u ∙ ap (act (Kept rest)) (take_put_past n s x (val e s) (ltb-false x n k) long)

  -- the state never gets shorter
  pub act_long : (body : List Simple) (s : List ℤ) → n ≤ length s → n ≤ length (act body s)
  act_long [] s long = long
  act_long (Pass ∷ rest) s long = act_long rest s long
  act_long (Set x e ∷ rest) s long = act_long rest (put s x (val e s)) (put_still x (val e s) s long)

  -- ---- the old action and marks

  kept_marks : (marks : List Simple) → AllByRecursion (IsMark n) marks → Kept marks ≡ []
  kept_marks [] h = refl
  kept_marks (Pass ∷ rest) h = absurd h.0
  kept_marks (Set x e ∷ rest) h =
      ap (λ b. cond b (Set x e ∷ Kept rest) (Kept rest)) (le-ltb x n h.0.0) ∙ kept_marks rest h.1

  kept_old : (old marks : List Simple) → AllByRecursion (IsUsableSimple n) old → AllByRecursion (IsMark n) marks → Kept (old ++ marks) ≡ old
  kept_old [] marks u h = kept_marks marks h
  kept_old (Pass ∷ rest) marks u h = ap (λ r. Pass ∷ r) (kept_old rest marks u.1 h)
  kept_old (Set x e ∷ rest) marks u h =
      ap (λ b. cond b (Set x e ∷ Kept (rest ++ marks)) (Kept (rest ++ marks))) (lt-ltb x n u.0.0)
      ∙ ap (λ r. Set x e ∷ r) (kept_old rest marks u.1 h)

  quiet_marks : (marks : List Simple) → AllByRecursion (IsMark n) marks → AllByRecursion (IsQuiet n) marks
  quiet_marks [] h = tt
  quiet_marks (Pass ∷ rest) h = absurd h.0
  quiet_marks (Set x e ∷ rest) h = ((λ _. h.0.1), quiet_marks rest h.1)

  quiet_old : (old marks : List Simple) → AllByRecursion (IsUsableSimple n) old → AllByRecursion (IsMark n) marks → AllByRecursion (IsQuiet n) (old ++ marks)
  quiet_old [] marks u h = quiet_marks marks h
  quiet_old (Pass ∷ rest) marks u h = (tt, quiet_old rest marks u.1 h)
  quiet_old (Set x e ∷ rest) marks u h =
      ((λ past. absurd (both_ways (nat_lt x n) past (lt-ltb x n u.0.0))), quiet_old rest marks u.1 h)

  module _ (body old : List Simple) (h : BodyCompletes n body old) (u : AllByRecursion (IsUsableSimple n) old) where
    marks : AllByRecursion (IsMark n) h.0
    marks = recursion_from_All (IsMark n) h.0 h.2

    kept : Kept body ≡ old
    kept = ap Kept h.1 ∙ kept_old old h.0 u marks

    pub body_fits : (s : List ℤ) → n ≤ length s → all_fit body s ≡ all_fit old (take n s)
    body_fits s long =
        fits_same body s long (subst (AllByRecursion (IsUsableSimple n)) (sym kept) u) (subst (AllByRecursion (IsQuiet n)) (sym h.1) (quiet_old old h.0 u marks))
        ∙ ap (λ acts. all_fit acts (take n s)) kept

    pub body_acts : (s : List ℤ) → n ≤ length s → take n (act body s) ≡ act old (take n s)
    body_acts s long =
        act_same body s long (subst (AllByRecursion (IsUsableSimple n)) (sym kept) u) ∙ ap (λ acts. act acts (take n s)) kept

  -- an action completes itself
  pub body_itself : (body : List Simple) → BodyCompletes n body body
  body_itself body = ([], sym (append-nil body), All-nil (IsMark n))
