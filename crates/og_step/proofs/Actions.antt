-- The assignments of an action, one after another.
use Rattle.std.proofs.Common.{◌≡◌, ◌≢◌, ℕ, zero, suc, ◌+◌, ◌<◌, ◌≤◌, ℤ, pos, List, [], ◌∷◌, map, drop, length, get_or, Bool, true, false, ◌&&◌, ◌||◌, ◌==◌, sym, ap, ◌∙◌, length-set, drop_of_length-le, ⊎_elim}
use Rattle.std.proofs.lemmas.List.{drop_more, ext_get_or}
use Rattle.std.proofs.lemmas.Bool.{or_parts, eqb-false, eqb-true, cases_eq, false_from_ne_true}
use Rattle.og_linear.specs.Linear.{FormValue, put, val, value_at, fits_i64}
use Rattle.og_linear.proofs.Put.{put_set, put_same, put_other}
use Rattle.og_typed.specs.declared.statement.Basic.{Basic}
use Rattle.og_typed.specs.declared.statement.Basic.TheVariants as basic
use Rattle.og_typed.specs.Syntax.{Simple, Set}
use Rattle.og_typed.specs.Plain.{simple}
use Rattle.og_typed.specs.Machine.{act, all_fit}
use Rattle.og_step.specs.Actions.{assigns}

-- the i-th assignment and what follows it
pub cut_at : (body : List Basic) (i : ℕ) (d b : Basic) → i < length body → d ≡ get_or body i d → d ≡ b → map simple (drop i body) ≡ simple b ∷ map simple (drop (i + 1) body)
cut_at body i d b lt is e =
    ap (map simple) (drop_more body i d lt) ∙ ap (λ x. simple x ∷ map simple (drop (i + 1) body)) (sym is ∙ e)

none_left : (body : List Basic) (i : ℕ) → length body ≤ i → map simple (drop i body) ≡ []
none_left body i h = ap (map simple) (drop_of_length-le body h)

pub put_length : (s : List ℤ) (x : ℕ) (v : ℤ) → x < length s → length (put s x v) ≡ length s
put_length s x v lt = ap length (put_set s x v lt) ∙ length-set s x v

assigns_drop : (x : ℕ) (body : List Basic) (i : ℕ) → assigns x (map simple body) ≡ false → assigns x (map simple (drop i body)) ≡ false
assigns_drop x body zero e = e
assigns_drop x [] (suc i) e = e
assigns_drop x (basic.Skip ∷ body) (suc i) e = assigns_drop x body i e
assigns_drop x (basic.Assign y f ∷ body) (suc i) e = assigns_drop x body i (or_parts (x == y) (assigns x (map simple body)) e).1

-- ---- one assignment of a run

module _ (rest : List Simple) (y : ℕ) (e : FormValue) (s t : List ℤ) (is : t ≡ put s y (val e s)) where
  pub set_fits : (l : List Simple) (all : Bool) → l ≡ Set y e ∷ rest → fits_i64 (val e s) ≡ true → all_fit l s ≡ all → all_fit rest t ≡ all
  set_fits l all cut fit inv =
      ap (all_fit rest) is
      ∙ sym (ap (λ b. b && all_fit rest (put s y (val e s))) fit)
      ∙ sym (ap (λ m. all_fit m s) cut)
      ∙ inv

  pub set_acts : (l : List Simple) (all : List ℤ) → l ≡ Set y e ∷ rest → act l s ≡ all → act rest t ≡ all
  set_acts l all cut inv = ap (act rest) is ∙ sym (ap (λ m. act m s) cut) ∙ inv

-- a variable that the action does not assign
pub set_others : (body : List Basic) (i : ℕ) (y : ℕ) (e : FormValue) (s t s0 : List ℤ) (v : ℤ) → t ≡ put s y v → map simple (drop i body) ≡ Set y e ∷ map simple (drop (i + 1) body) → ((x : ℕ) → assigns x (map simple body) ≡ false → value_at s x ≡ value_at s0 x) → (x : ℕ) → assigns x (map simple body) ≡ false → value_at t x ≡ value_at s0 x
set_others body i y e s t s0 v is cut inv x h =
    let here : (x == y || assigns x (map simple (drop (i + 1) body))) ≡ false = sym (ap (assigns x) cut) ∙ assigns_drop x body i h in
    ap (λ r. value_at r x) is ∙ put_other s y x v (eqb-false x y (or_parts (x == y) _ here).0) ∙ inv x h

-- ---- copying the assigned variables

pub settle_one : (l rest : List Simple) (y : ℕ) (e : FormValue) (from to new : List ℤ) → l ≡ Set y e ∷ rest → new ≡ put to y (value_at from y) → ((x : ℕ) → assigns x l ≡ false → value_at to x ≡ value_at from x) → (x : ℕ) → assigns x rest ≡ false → value_at new x ≡ value_at from x
settle_one l rest y e from to new cut is inv x h = ap (λ r. value_at r x) is ∙ ⊎_elim same other (cases_eq x y)
  where
    same : x ≡ y → value_at (put to y (value_at from y)) x ≡ value_at from x
    same p = ap (value_at (put to y (value_at from y))) p ∙ put_same to y (value_at from y) ∙ ap (value_at from) (sym p)

    other : x ≢ y → value_at (put to y (value_at from y)) x ≡ value_at from x
    other ne = put_other to y x (value_at from y) ne ∙ inv x (ap (assigns x) cut ∙ ap (λ b. b || assigns x rest) (false_from_ne_true (x == y) (λ e. ne (eqb-true x y e))) ∙ h)

pub settle_end : (body : List Basic) (i : ℕ) (from to : List ℤ) → length body ≤ i → length to ≡ length from → ((x : ℕ) → assigns x (map simple (drop i body)) ≡ false → value_at to x ≡ value_at from x) → to ≡ from
settle_end body i from to h long inv =
    ext_get_or (pos 0) to from long (λ x lt. inv x (ap (assigns x) (none_left body i h)))
