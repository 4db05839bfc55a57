-- An assertion whose forms can be evaluated.
use Rattle.std.proofs.Common.{◌≡◌, ℕ, ◌+◌, ◌-◌, ◌<◌, ◌≤◌, [], ◌∷◌, length, Bool, true, false, ◌&&◌, ◌||◌, nat_le, nat_lt, All, refl, sym, ap, ◌∙◌, arith}
use Rattle.std.specs.List.{list_all, AllByRecursion}
use Rattle.std.proofs.lemmas.List.Elements.{All-from_recursion}
use Rattle.std.proofs.lemmas.Bool.{and_parts, and_from, leb-true, le-leb, ltb-true, or_left, or_right}
use Rattle.og_linear.specs.Linear.{Terms, FormValue, is_small}
use Rattle.og_linear.specs.Tidy.{IsTidyFrom, IsTidy}
use Rattle.og_typed.specs.Syntax.{Formula, True, False, Le, Eq, Ne, Not, And, Or, Imp, Formulas, none, more}
use Rattle.og_typed.specs.Forms.{each_form, each_form_in}
use Rattle.og_typed.specs.Rule.{is_usable_form}
use Rattle.og_step.specs.Readable.{has_few, is_within, is_readable}

-- ---- tests of every form of an assertion

abbrev Leads : (FormValue → Bool) → (FormValue → Bool) → Type 0
Leads p q = (f : FormValue) → p f ≡ true → q f ≡ true

mutual
  pub each_leads : (p q : FormValue → Bool) → Leads p q → (a : Formula) → each_form p a ≡ true → each_form q a ≡ true
  each_leads p q l True e = refl
  each_leads p q l False e = refl
  each_leads p q l (Le f) e = l f e
  each_leads p q l (Eq f) e = l f e
  each_leads p q l (Ne f) e = l f e
  each_leads p q l (Not a) e = each_leads p q l a e
  each_leads p q l (And all) e = each_in_leads p q l all e
  each_leads p q l (Or all) e = each_in_leads p q l all e
  each_leads p q l (Imp a b) e =
      let both = and_parts (each_form p a) (each_form p b) e in
      and_from _ _ (each_leads p q l a both.0) (each_leads p q l b both.1)

  each_in_leads : (p q : FormValue → Bool) → Leads p q → (all : Formulas) → each_form_in p all ≡ true → each_form_in q all ≡ true
  each_in_leads p q l none e = refl
  each_in_leads p q l (more a rest) e =
      let both = and_parts (each_form p a) (each_form_in p rest) e in
      and_from _ _ (each_leads p q l a both.0) (each_in_leads p q l rest both.1)

mutual
  each_both : (p q : FormValue → Bool) (a : Formula) → each_form p a ≡ true → each_form q a ≡ true → each_form (λ f. p f && q f) a ≡ true
  each_both p q True e h = refl
  each_both p q False e h = refl
  each_both p q (Le f) e h = and_from _ _ e h
  each_both p q (Eq f) e h = and_from _ _ e h
  each_both p q (Ne f) e h = and_from _ _ e h
  each_both p q (Not a) e h = each_both p q a e h
  each_both p q (And all) e h = each_in_both p q all e h
  each_both p q (Or all) e h = each_in_both p q all e h
  each_both p q (Imp a b) e h =
      let l = and_parts (each_form p a) (each_form p b) e in
      let r = and_parts (each_form q a) (each_form q b) h in
      and_from _ _ (each_both p q a l.0 r.0) (each_both p q b l.1 r.1)

  each_in_both : (p q : FormValue → Bool) (all : Formulas) → each_form_in p all ≡ true → each_form_in q all ≡ true → each_form_in (λ f. p f && q f) all ≡ true
  each_in_both p q none e h = refl
  each_in_both p q (more a rest) e h =
      let l = and_parts (each_form p a) (each_form_in p rest) e in
      let r = and_parts (each_form q a) (each_form_in q rest) h in
      and_from _ _ (each_both p q a l.0 r.0) (each_in_both p q rest l.1 r.1)

-- ---- from the parts, and from the rule of an outline

pub from_parts : (n : ℕ) (a : Formula) → each_form is_small a ≡ true → each_form has_few a ≡ true → each_form (is_within n) a ≡ true → each_form (is_readable n) a ≡ true
from_parts n a small few within =
    each_leads (λ f. (is_small f && is_within n f) && has_few f) (is_readable n)
    (λ f e.
    let both = and_parts (is_small f && is_within n f) (has_few f) e in
    and_from _ _ both.0 (or_left (has_few f) (nat_le n 256) both.1))
    a
    (each_both (λ f. is_small f && is_within n f) has_few a (each_both is_small (is_within n) a small within) few)

pub form_usable : (n : ℕ) (f : FormValue) → n ≤ 256 → is_usable_form n f ≡ true → is_readable n f ≡ true
form_usable n f short e = and_from _ _ e (or_right (has_few f) (nat_le n 256) (le-leb n 256 short))

-- ---- what a form needs to be evaluated

pub small_of : (n : ℕ) (f : FormValue) → is_readable n f ≡ true → is_small f ≡ true
small_of n f e = (and_parts (is_small f) (is_within n f) (and_parts (is_small f && is_within n f) (has_few f || nat_le n 256) e).0).0

within_all : (n : ℕ) (ts : Terms) → list_all (λ t. nat_lt t.0 n) ts ≡ true → AllByRecursion (λ t. t.0 < n) ts
within_all n [] e = tt
within_all n (t ∷ ts) e =
    let both = and_parts (nat_lt t.0 n) (list_all (λ u. nat_lt u.0 n) ts) e in
    (ltb-true t.0 n both.0, within_all n ts both.1)

pub within_of : (n : ℕ) (f : FormValue) → is_readable n f ≡ true → All (λ t. t.0 < n) f.terms
within_of n f e =
    All-from_recursion (λ t. t.0 < n) f.terms
    (within_all n f.terms (and_parts (is_small f) (is_within n f) (and_parts (is_small f && is_within n f) (has_few f || nat_le n 256) e).0).1)

-- rising variables below n are at most n
tidy_short : (low n : ℕ) (ts : Terms) → IsTidyFrom low ts → list_all (λ t. nat_lt t.0 n) ts ≡ true → length ts ≤ n - low
tidy_short low n [] h e = omega arith
tidy_short low n (t ∷ ts) h e =
    let both = and_parts (nat_lt t.0 n) (list_all (λ u. nat_lt u.0 n) ts) e in
    let here : t.0 < n = ltb-true t.0 n both.0 in
    let from : low < t.0 + 1 = h.0 in
    let rest : length ts ≤ n - (t.0 + 1) = tidy_short (t.0 + 1) n ts h.2 both.1 in
    omega (arith, here, from, rest)

pub few_of : (n : ℕ) (f : FormValue) → is_readable n f ≡ true → IsTidy f.terms → length f.terms ≤ 256
few_of n f e tidy = go (has_few f) refl
  where
    parts : ((is_small f && is_within n f) ≡ true) × ((has_few f || nat_le n 256) ≡ true)
    parts = and_parts (is_small f && is_within n f) (has_few f || nat_le n 256) e

    go : (b : Bool) → has_few f ≡ b → length f.terms ≤ 256
    go true h = leb-true (length f.terms) 256 h
    go false h =
        let all : length f.terms ≤ n - 0 = tidy_short 0 n f.terms tidy (and_parts (is_small f) (is_within n f) parts.0).1 in
        let short : n ≤ 256 = leb-true n 256 (sym (ap (λ b. b || nat_le n 256) h) ∙ parts.1) in
        omega (arith, all, short)
