-- What the terms of a sum add to a coefficient or to the constant of its form.
use Rattle.std.proofs.Common.{◌≡◌, ℕ, zero, suc, ◌+◌, ◌-◌, ℤ, pos, ◌+ℤ◌, ◌*ℤ◌, List, [], ◌∷◌, ◌++◌, length, map, take, filter, Bool, true, false, ◌&&◌, cond, Some, None, refl, sym, ap, ◌∙◌, arith}
use Rattle.std.specs.Prelude.{not, Ok, Err, ◌==◌, slice_get, neg_ℤ}
use Rattle.std.proofs.lemmas.Int.{ints}
use Rattle.std.proofs.lemmas.Bool.{and_parts, eqb-true}
use Rattle.std.proofs.lemmas.List.{take_more, take_all}
use Rattle.std.proofs.lemmas.Option.{slice_get_within, get_or_from_slice_get}
use Rattle.og_linear.specs.Linear.{FormValue, form_value}
use Rattle.og_linear.specs.Tidy.{IsTidy}
use Rattle.og_linear.specs.Arith.{scaled, plus, variable}
use Rattle.og_linear.specs.Replaced.{coefficient}
use Rattle.og_linear.proofs.Ring.{add-mul}
use Rattle.og_linear.proofs.Steps.{tidy_scale, tidy_merge}
use Rattle.og_linear.proofs.Coefficients.{coefficient-scale_terms, coefficient-merge, same_terms}
use Rattle.og_parse.specs.declared.raw.Sign.{Sign}
use Rattle.og_parse.specs.declared.raw.Sign.TheVariants as signs
use Rattle.og_parse.specs.declared.raw.RawFactor.{RawFactor}
use Rattle.og_parse.specs.declared.raw.RawFactor.TheVariants as factors
use Rattle.og_parse.specs.declared.raw.RawTerm.{RawTerm}
use Rattle.og_typed.specs.Resolved.{Checked, ◌>>=◌, Scope, Use, number, factor, signed, sum_from}
use Rattle.og_erase_readable.specs.Readable.{is_this, is_plus, is_zero, is_one, or_zero, turned, other_sign}

-- ---- a coefficient, or the constant

pub record IsReading (at : FormValue → ℤ) : Type 0 where
  pub sums : (f g : FormValue) → IsTidy f.terms → IsTidy g.terms → at (plus f g) ≡ at f +ℤ at g
  pub multiples : (k : ℤ) (f : FormValue) → IsTidy f.terms → at (scaled k f) ≡ k *ℤ at f

coefficient_reading : (x : ℕ) → IsReading (λ f. coefficient x f.terms)
coefficient_reading x = record {
  sums = λ f g p q. coefficient-merge f.terms g.terms 0 x p q;
  multiples = λ k f p. coefficient-scale_terms k f.terms 0 x p;
}

constant_reading : IsReading (λ f. f.constant)
constant_reading = record { sums = λ f g p q. refl; multiples = λ k f p. refl }

-- a form is known by its readings
pub same_form : (f g : FormValue) → IsTidy f.terms → IsTidy g.terms → ((at : FormValue → ℤ) → IsReading at → at f ≡ at g) → f ≡ g
same_form f g p q same =
    let terms : f.terms ≡ g.terms = same_terms f.terms g.terms 0 0 p q (λ x. same (λ h. coefficient x h.terms) (coefficient_reading x)) in
    let constant : f.constant ≡ g.constant = same (λ h. h.constant) constant_reading in
    λ i. record { terms = terms i; constant = constant i }

-- ---- numbers

cancels : (n : ℕ) (a : ℤ) → neg_ℤ (pos n) *ℤ a +ℤ pos n *ℤ a ≡ pos 0
cancels n a =
    let none : neg_ℤ (pos n) +ℤ pos n ≡ pos 0 = omega (arith, ints) in
    let nothing : pos 0 *ℤ a ≡ pos 0 = omega (arith, ints) in
    sym (add-mul a (neg_ℤ (pos n)) (pos n)) ∙ ap (λ k. k *ℤ a) none ∙ nothing

-- ---- factors

abbrev pub found : Checked (ℕ × FormValue) → ℕ × FormValue
found (Ok p) = p
found (Err fault) = (0, form_value [] (pos 0))

abbrev pub is_found : Checked (ℕ × FormValue) → Bool
is_found (Ok p) = true
is_found (Err fault) = false

module _ (scope : Scope) (use_of : Use) where
  found_tidy : (f : RawFactor) → IsTidy (found (factor scope use_of f)).1.terms
  found_tidy (factors.Number n) = tt
  found_tidy (factors.Variable name) = go (number scope use_of name)
    where
      go : (r : Checked ℕ) → IsTidy (found (r >>= λ x. Ok (1, variable x))).1.terms
      go (Ok x) = (omega arith, (λ e. cc), tt)
      go (Err fault) = tt
  found_tidy (factors.Product n name) = go (number scope use_of name)
    where
      go : (r : Checked ℕ) → IsTidy (found (r >>= λ x. Ok (n, variable x))).1.terms
      go (Ok x) = (omega arith, (λ e. cc), tt)
      go (Err fault) = tt

  -- every factor has a form
  abbrev pub are_found : List RawTerm → Bool
  are_found [] = true
  are_found (t ∷ ts) = is_found (factor scope use_of t.factor) && are_found ts

  -- the form so far with the terms added
  abbrev pub added : FormValue → List RawTerm → FormValue
  added total [] = total
  added total (t ∷ ts) = added (plus total (scaled (signed t.sign (pos (found (factor scope use_of t.factor)).0)) (found (factor scope use_of t.factor)).1)) ts

  pub sum_found : (ts : List RawTerm) (total f : FormValue) → sum_from scope use_of total ts ≡ Ok f → (are_found ts ≡ true) × (f ≡ added total ts)
  sum_found [] total f e = (refl, ok_same total f e)
    where
      ok_same : (x y : FormValue) → ◌≡◌ {A = Checked FormValue} (Ok x) (Ok y) → y ≡ x
      ok_same x y e = cc
  sum_found (t ∷ ts) total f e = go (λ next h. sum_found ts next f h) (factor scope use_of t.factor) e
    where
      go : ((next : FormValue) → sum_from scope use_of next ts ≡ Ok f → (are_found ts ≡ true) × (f ≡ added next ts)) → (r : Checked (ℕ × FormValue)) → (r >>= λ p. sum_from scope use_of (plus total (scaled (signed t.sign (pos p.0)) p.1)) ts) ≡ Ok f
          → ((is_found r && are_found ts) ≡ true) × (f ≡ added (plus total (scaled (signed t.sign (pos (found r).0)) (found r).1)) ts)
      go later (Ok p) h = later (plus total (scaled (signed t.sign (pos p.0)) p.1)) h
      go later (Err fault) h = absurd cc

  pub sum_ok : (ts : List RawTerm) (total : FormValue) → are_found ts ≡ true → sum_from scope use_of total ts ≡ Ok (added total ts)
  sum_ok [] total h = refl
  sum_ok (t ∷ ts) total h = go (λ next k. sum_ok ts next k) (factor scope use_of t.factor) h
    where
      go : ((next : FormValue) → are_found ts ≡ true → sum_from scope use_of next ts ≡ Ok (added next ts)) → (r : Checked (ℕ × FormValue)) → (is_found r && are_found ts) ≡ true
          → (r >>= λ p. sum_from scope use_of (plus total (scaled (signed t.sign (pos p.0)) p.1)) ts) ≡ Ok (added (plus total (scaled (signed t.sign (pos (found r).0)) (found r).1)) ts)
      go later (Ok p) k = later (plus total (scaled (signed t.sign (pos p.0)) p.1)) k
      go later (Err fault) k = absurd cc

  pub added_tidy : (ts : List RawTerm) (total : FormValue) → IsTidy total.terms → IsTidy (added total ts).terms
  added_tidy [] total h = h
  added_tidy (t ∷ ts) total h = added_tidy ts _ (tidy_merge 0 total.terms _ h (tidy_scale (signed t.sign (pos (found (factor scope use_of t.factor)).0)) 0 _ (found_tidy t.factor)))

  -- ---- what stays found

  and_true : (a b : Bool) → a ≡ true → b ≡ true → (a && b) ≡ true
  and_true true b h k = k
  and_true false b h k = h

  pub found_filter : (keep : RawTerm → Bool) (ts : List RawTerm) → are_found ts ≡ true → are_found (filter keep ts) ≡ true
  found_filter keep [] h = refl
  found_filter keep (t ∷ ts) h =
      let both = and_parts (is_found (factor scope use_of t.factor)) (are_found ts) h in
      go (keep t) both.0 (found_filter keep ts both.1)
    where
      go : (b : Bool) → is_found (factor scope use_of t.factor) ≡ true → are_found (filter keep ts) ≡ true → are_found (cond b (t ∷ filter keep ts) (filter keep ts)) ≡ true
      go true here later = and_true _ _ here later
      go false here later = later

  pub found_turned : (ts : List RawTerm) → are_found ts ≡ true → are_found (map turned ts) ≡ true
  found_turned [] h = refl
  found_turned (t ∷ ts) h =
      let both = and_parts (is_found (factor scope use_of t.factor)) (are_found ts) h in
      and_true _ _ both.0 (found_turned ts both.1)

  pub found_take : (n : ℕ) (ts : List RawTerm) → are_found ts ≡ true → are_found (take n ts) ≡ true
  found_take zero ts h = refl
  found_take (suc n) [] h = refl
  found_take (suc n) (t ∷ ts) h =
      let both = and_parts (is_found (factor scope use_of t.factor)) (are_found ts) h in
      and_true _ _ both.0 (found_take n ts both.1)

  pub found_or_zero : (ts : List RawTerm) → are_found ts ≡ true → are_found (or_zero ts) ≡ true
  found_or_zero [] h = refl
  found_or_zero (t ∷ ts) h = h

  -- ---- weights

  module _ (at : FormValue → ℤ) where
    abbrev weigh : Sign → ℕ × FormValue → ℤ
    weigh sign p = signed sign (pos p.0) *ℤ at p.1

    -- what a term adds
    abbrev pub weight : RawTerm → ℤ
    weight t = weigh t.sign (found (factor scope use_of t.factor))

    abbrev pub weights : List RawTerm → ℤ
    weights [] = pos 0
    weights (t ∷ ts) = weight t +ℤ weights ts

    pub added_at : IsReading at → (ts : List RawTerm) (total : FormValue) → IsTidy total.terms → at (added total ts) ≡ at total +ℤ weights ts
    added_at reading [] total h = omega (arith, ints)
    added_at reading (t ∷ ts) total h =
        let k = signed t.sign (pos (found (factor scope use_of t.factor)).0) in
        let g = (found (factor scope use_of t.factor)).1 in
        let tidy = tidy_scale k 0 g.terms (found_tidy t.factor) in
        let later = added_at reading ts (plus total (scaled k g)) (tidy_merge 0 total.terms (scaled k g).terms h tidy) in
        let here : at (plus total (scaled k g)) ≡ at total +ℤ k *ℤ at g =
        reading.sums total (scaled k g) h tidy ∙ ap (λ z. at total +ℤ z) (reading.multiples k g (found_tidy t.factor)) in
        later ∙ ap (λ z. z +ℤ weights ts) here ∙ plus_assoc (at total) (k *ℤ at g) (weights ts)
      where
        plus_assoc : (a b c : ℤ) → (a +ℤ b) +ℤ c ≡ a +ℤ (b +ℤ c)
        plus_assoc a b c = omega (arith, ints)

    weights-append : (ts us : List RawTerm) → weights (ts ++ us) ≡ weights ts +ℤ weights us
    weights-append [] us = omega (arith, ints)
    weights-append (t ∷ ts) us = let e = weights-append ts us in ap (λ z. weight t +ℤ z) e ∙ plus_assoc (weight t) (weights ts) (weights us)
      where
        plus_assoc : (a b c : ℤ) → a +ℤ (b +ℤ c) ≡ (a +ℤ b) +ℤ c
        plus_assoc a b c = omega (arith, ints)

    turned_weight : (sign : Sign) (p : ℕ × FormValue) → weigh (other_sign sign) p +ℤ weigh sign p ≡ pos 0
    turned_weight signs.Plus p = cancels p.0 (at p.1)
    turned_weight signs.Minus p = swapped (pos p.0 *ℤ at p.1) (neg_ℤ (pos p.0) *ℤ at p.1) (cancels p.0 (at p.1))
      where
        swapped : (a b : ℤ) → b +ℤ a ≡ pos 0 → a +ℤ b ≡ pos 0
        swapped a b e = omega (arith, ints)

    pub turned_weights : (ts : List RawTerm) → weights (map turned ts) +ℤ weights ts ≡ pos 0
    turned_weights [] = omega (arith, ints)
    turned_weights (t ∷ ts) = both (weight (turned t)) (weight t) (weights (map turned ts)) (weights ts) (turned_weight t.sign (found (factor scope use_of t.factor))) (turned_weights ts)
      where
        both : (a b c d : ℤ) → a +ℤ b ≡ pos 0 → c +ℤ d ≡ pos 0 → (a +ℤ c) +ℤ (b +ℤ d) ≡ pos 0
        both a b c d e f = omega (arith, ints)

    pub parted_weights : (keep : RawTerm → Bool) (ts : List RawTerm) → weights ts ≡ weights (filter keep ts) +ℤ weights (filter (λ t. not (keep t)) ts)
    parted_weights keep [] = omega (arith, ints)
    parted_weights keep (t ∷ ts) = go (keep t) (parted_weights keep ts)
      where
        left : (a b c d : ℤ) → b ≡ c +ℤ d → a +ℤ b ≡ (a +ℤ c) +ℤ d
        left a b c d e = omega (arith, ints)

        right : (a b c d : ℤ) → b ≡ c +ℤ d → a +ℤ b ≡ c +ℤ (a +ℤ d)
        right a b c d e = omega (arith, ints)

        go : (b : Bool) → weights ts ≡ weights (filter keep ts) +ℤ weights (filter (λ u. not (keep u)) ts) → weight t +ℤ weights ts ≡ weights (cond b (t ∷ filter keep ts) (filter keep ts)) +ℤ weights (cond (not b) (t ∷ filter (λ u. not (keep u)) ts) (filter (λ u. not (keep u)) ts))
        go true later = left (weight t) (weights ts) (weights (filter keep ts)) (weights (filter (λ u. not (keep u)) ts)) later
        go false later = right (weight t) (weights ts) (weights (filter keep ts)) (weights (filter (λ u. not (keep u)) ts)) later

    nothing : (a : ℤ) → pos 0 *ℤ a +ℤ pos 0 ≡ pos 0
    nothing a = omega (arith, ints)

    pub weights-or_zero : (ts : List RawTerm) → weights (or_zero ts) ≡ weights ts
    weights-or_zero [] = nothing (at (form_value [] (pos 1)))
    weights-or_zero (t ∷ ts) = refl

    -- the number 0 adds nothing
    zero_weight : (sign : Sign) (f : RawFactor) → is_this 0 f ≡ true → weigh sign (found (factor scope use_of f)) +ℤ pos 0 ≡ pos 0
    zero_weight signs.Plus (factors.Number n) h = ap (λ m. pos m *ℤ at (form_value [] (pos 1)) +ℤ pos 0) (eqb-true n 0 h) ∙ nothing (at (form_value [] (pos 1)))
    zero_weight signs.Minus (factors.Number n) h = ap (λ m. neg_ℤ (pos m) *ℤ at (form_value [] (pos 1)) +ℤ pos 0) (eqb-true n 0 h) ∙ nothing (at (form_value [] (pos 1)))
    zero_weight sign (factors.Variable x) h = absurd cc
    zero_weight sign (factors.Product n x) h = absurd cc

    pub weights-zero : (ts : List RawTerm) → is_zero ts ≡ true → weights ts ≡ pos 0
    weights-zero [] h = refl
    weights-zero (t ∷ []) h = zero_weight t.sign t.factor h
    weights-zero (t ∷ u ∷ ts) h = absurd cc

    -- `+ 1` adds 1
    one_weight : (sign : Sign) (f : RawFactor) → (is_this 1 f && is_plus sign) ≡ true → weigh sign (found (factor scope use_of f)) ≡ at (form_value [] (pos 1))
    one_weight signs.Plus (factors.Number n) h =
        ap (λ m. pos m *ℤ at (form_value [] (pos 1))) (eqb-true n 1 (and_parts (n == 1) true h).0) ∙ once (at (form_value [] (pos 1)))
      where
        once : (a : ℤ) → pos 1 *ℤ a ≡ a
        once a = omega (arith, ints)
    one_weight signs.Minus (factors.Number n) h = let e : false ≡ true = (and_parts (n == 1) false h).1 in absurd cc
    one_weight sign (factors.Variable x) h = absurd cc
    one_weight sign (factors.Product n x) h = absurd cc

    pub weights-front : (ts : List RawTerm) → is_one (slice_get ts (length ts - 1)) ≡ true → weights ts ≡ weights (take (length ts - 1) ts) +ℤ at (form_value [] (pos 1))
    weights-front ts h = go (slice_get ts (length ts - 1)) refl h
      where
        go : (o : _) → slice_get ts (length ts - 1) ≡ o → is_one o ≡ true → weights ts ≡ weights (take (length ts - 1) ts) +ℤ at (form_value [] (pos 1))
        go None e k = absurd cc
        go (Some t) e k =
            let front = take (length ts - 1) ts in
            let within = slice_get_within ts (length ts - 1) t e in
            let whole : front ++ t ∷ [] ≡ ts =
            ap (λ u. front ++ u ∷ []) (sym (get_or_from_slice_get ts (length ts - 1) t t e)) ∙ sym (take_more ts (length ts - 1) t within) ∙ take_all (length ts - 1 + 1) ts (omega (arith, within)) in
            let last : weights (t ∷ []) ≡ at (form_value [] (pos 1)) = ends (weight t) (at (form_value [] (pos 1))) (one_weight t.sign t.factor k) in
            ap weights (sym whole) ∙ weights-append front (t ∷ []) ∙ ap (λ z. weights front +ℤ z) last
          where
            ends : (a b : ℤ) → a ≡ b → a +ℤ pos 0 ≡ b
            ends a b e = omega (arith, ints)
