-- Printed assertions are read as they were, with no more levels.
use Rattle.std.proofs.Common.{◌≡◌, ℕ, zero, suc, ◌≤◌, ◌<◌, List, [], ◌∷◌, ◌++◌, map, refl, sym, ap, subst, ◌∙◌, inl, inr, append-nil, arith, cond, Bool, true, false}
use Rattle.std.specs.Prelude.{nat_le}
use Rattle.std.proofs.lemmas.Bool.Decides.{nat_tests}
use Rattle.std.proofs.lemmas.Bool.{cases_lt}
use Rattle.og_text.specs.declared.token.TokenKind.{TokenKind}
use Rattle.og_text.specs.declared.token.TokenKind.TheVariants as kinds
use Rattle.og_text.specs.declared.token.Token.{Token}
use Rattle.og_parse.specs.Language.{Language}
use Rattle.og_parse.specs.declared.raw.Relation.{Relation}
use Rattle.og_parse.specs.Trees.{Sum, Assertion, Assertions, Truth, Falsity, Comparison, Negation, Conjunction, Disjunction, Implication, listed, conjunction, disjunction}
use Rattle.og_parse.specs.Grammar.{Openings, openings, IsComparison, IsUnitWith, IsConjunctionWith, IsDisjunctionWith, IsAssertionWith}
use Rattle.og_print.specs.Plain.{plain_sum, plain_assertion}
use Rattle.og_print.specs.Print.{looseness, fitted_in, assertion_in, later_in, relation_word, terms_in, alone}
use Rattle.og_print.proofs.Reprint.{Prints, prints_same, prints_as, prints_within, front_good, prints_then, prints_last, prints_word, prints_end, prints_inl, prints_inr, prints_separated, joined, back_good}
use Rattle.og_print.proofs.ReprintSums.{prints_sum, prints_relation}

-- the part of the grammar that holds what binds no more loosely
abbrev pub Within : ℕ → Openings → Language Assertion
Within zero o = IsUnitWith o
Within (suc zero) o = IsConjunctionWith o
Within (suc (suc zero)) o = IsDisjunctionWith o
Within (suc (suc (suc k))) o = IsAssertionWith o

abbrev pub printed : Assertion → List TokenKind
printed a = assertion_in alone a

abbrev pub fitted : ℕ → Assertion → List TokenKind
fitted limit a = fitted_in alone limit a (printed a)

abbrev pub in_parens : Assertion → List TokenKind
in_parens a = kinds.OpenParen ∷ (printed a ++ kinds.CloseParen ∷ [])

pub looseness-le : (a : Assertion) → looseness a ≤ 3
looseness-le Truth = omega arith
looseness-le (Conjunction all) = omega arith
looseness-le (Disjunction all) = omega arith
looseness-le (Implication left right) = omega arith
looseness-le a = omega arith

fitted_bare : (limit : ℕ) (a : Assertion) → looseness a ≤ limit → printed a ≡ fitted limit a
fitted_bare limit a le = let e : nat_le (looseness a) limit ≡ true = grind (arith, nat_tests) in ap (λ (b : Bool). cond b (printed a) (in_parens a)) (sym e)

fitted_parens : (limit : ℕ) (a : Assertion) → limit < looseness a → in_parens a ≡ fitted limit a
fitted_parens limit a lt = let e : nat_le (looseness a) limit ≡ false = grind (arith, nat_tests) in ap (λ (b : Bool). cond b (printed a) (in_parens a)) (sym e)

-- ---- a part alone is a list of one

module _ (o : Openings) {tokens : List Token} {p : List TokenKind} {a : Assertion} where
  conj_lift : Prints (IsUnitWith o) plain_assertion tokens p a → Prints (IsConjunctionWith o) plain_assertion tokens p a
  conj_lift h = record {
    again = λ others k.
        let x = h.again others k in
        record {
          value = x.value;
          is_read = record {
            head = x.value ∷ [];
            front = others;
            back = [];
            parts = sym (append-nil others);
            is_first = record { head = x.value; front = others; back = []; parts = sym (append-nil others); is_first = x.is_read; is_second = record { head = []; front = []; back = []; parts = refl; is_first = refl; is_second = (refl, refl) } };
            is_second = (refl, refl);
          };
          same = x.same;
        };
    good = h.good;
  }

  disj_lift : Prints (IsConjunctionWith o) plain_assertion tokens p a → Prints (IsDisjunctionWith o) plain_assertion tokens p a
  disj_lift h = record {
    again = λ others k.
        let x = h.again others k in
        record {
          value = x.value;
          is_read = record {
            head = x.value ∷ [];
            front = others;
            back = [];
            parts = sym (append-nil others);
            is_first = record { head = x.value; front = others; back = []; parts = sym (append-nil others); is_first = x.is_read; is_second = record { head = []; front = []; back = []; parts = refl; is_first = refl; is_second = (refl, refl) } };
            is_second = (refl, refl);
          };
          same = x.same;
        };
    good = h.good;
  }

  assert_lift : Prints (IsDisjunctionWith o) plain_assertion tokens p a → Prints (IsAssertionWith o) plain_assertion tokens p a
  assert_lift h = record {
    again = λ others k.
        let x = h.again others k in
        record { value = x.value; is_read = record { head = x.value; front = others; back = []; parts = sym (append-nil others); is_first = x.is_read; is_second = inr (refl, refl) }; same = x.same };
    good = h.good;
  }

  unit_to : (limit : ℕ) → Prints (IsUnitWith o) plain_assertion tokens p a → Prints (Within limit o) plain_assertion tokens p a
  unit_to zero h = h
  unit_to (suc zero) h = conj_lift h
  unit_to (suc (suc zero)) h = disj_lift (conj_lift h)
  unit_to (suc (suc (suc k))) h = assert_lift (disj_lift (conj_lift h))

  conj_to : (limit : ℕ) → 1 ≤ limit → Prints (IsConjunctionWith o) plain_assertion tokens p a → Prints (Within limit o) plain_assertion tokens p a
  conj_to zero le h = absurd (omega arith)
  conj_to (suc zero) le h = h
  conj_to (suc (suc zero)) le h = disj_lift h
  conj_to (suc (suc (suc k))) le h = assert_lift (disj_lift h)

  disj_to : (limit : ℕ) → 2 ≤ limit → Prints (IsDisjunctionWith o) plain_assertion tokens p a → Prints (Within limit o) plain_assertion tokens p a
  disj_to zero le h = absurd (omega arith)
  disj_to (suc zero) le h = absurd (omega arith)
  disj_to (suc (suc zero)) le h = h
  disj_to (suc (suc (suc k))) le h = assert_lift h

  assert_to : (limit : ℕ) → 3 ≤ limit → Prints (IsAssertionWith o) plain_assertion tokens p a → Prints (Within limit o) plain_assertion tokens p a
  assert_to zero le h = absurd (omega arith)
  assert_to (suc zero) le h = absurd (omega arith)
  assert_to (suc (suc zero)) le h = absurd (omega arith)
  assert_to (suc (suc (suc k))) le h = h

-- ---- comparisons

prints_comparison : (a : Assertion) (tokens : List Token) → IsComparison a tokens → Prints IsComparison plain_assertion tokens (printed a) a
prints_comparison a tokens d =
    let left = d.head in
    let d1 = d.is_second in
    let r = d1.head in
    let d2 = d1.is_second in
    let right = d2.head in
    prints_same printed a (Comparison left r right) d2.is_second.0
    (prints_then d (terms_in alone left.value) (relation_word r ∷ terms_in alone right.value) (prints_sum left d.front d.is_first)
    (λ l el. prints_then d1 (relation_word r ∷ []) (terms_in alone right.value) (prints_relation r d1.front)
    (λ s es. prints_last d2 (λ (x : Sum). Comparison l s x) (terms_in alone right.value) (prints_sum right d2.front d2.is_first)
    (λ x ex. ap (λ (z : Sum). Comparison z s (plain_sum x)) el ∙ ap (λ (z : Relation). Comparison (plain_sum left) z (plain_sum x)) es ∙ ap (λ (z : Sum). Comparison (plain_sum left) r z) ex))))

-- ---- lists

pub plain_conjunction : (all : List Assertion) → plain_assertion (conjunction all) ≡ conjunction (map plain_assertion all)
plain_conjunction [] = refl
plain_conjunction (x ∷ []) = refl
plain_conjunction (x ∷ y ∷ ys) = ap (λ (z : Assertions). Conjunction (Rattle.og_parse.specs.Trees.more (plain_assertion x) (Rattle.og_parse.specs.Trees.more (plain_assertion y) z))) (plain_listed ys) where
  plain_listed : (all : List Assertion) → Rattle.og_print.specs.Plain.plain_assertions (listed all) ≡ listed (map plain_assertion all)
  plain_listed [] = refl
  plain_listed (x ∷ xs) = ap (λ (z : Assertions). Rattle.og_parse.specs.Trees.more (plain_assertion x) z) (plain_listed xs)

pub plain_disjunction : (all : List Assertion) → plain_assertion (disjunction all) ≡ disjunction (map plain_assertion all)
plain_disjunction [] = refl
plain_disjunction (x ∷ []) = refl
plain_disjunction (x ∷ y ∷ ys) = ap (λ (z : Assertions). Disjunction (Rattle.og_parse.specs.Trees.more (plain_assertion x) (Rattle.og_parse.specs.Trees.more (plain_assertion y) z))) (plain_listed ys) where
  plain_listed : (all : List Assertion) → Rattle.og_print.specs.Plain.plain_assertions (listed all) ≡ listed (map plain_assertion all)
  plain_listed [] = refl
  plain_listed (x ∷ xs) = ap (λ (z : Assertions). Rattle.og_parse.specs.Trees.more (plain_assertion x) z) (plain_listed xs)

abbrev later_and : List Assertion → List TokenKind
later_and xs = later_in alone kinds.And 0 (listed xs)

abbrev later_or : List Assertion → List TokenKind
later_or xs = later_in alone kinds.Or 1 (listed xs)

-- ---- one level

-- what opens a level is read again
pub record Inner (n t : ℕ) : Type 0 where
  pub bare : (limit : ℕ) (a : Assertion) (tokens : List Token) → (openings n).prefix a tokens → looseness a ≤ limit → Prints (Within limit (openings t)) plain_assertion tokens (printed a) a
  pub loose : (a : Assertion) (tokens : List Token) → (openings n).prefix a tokens → 0 < looseness a → Prints (IsUnitWith (openings t)) plain_assertion tokens (in_parens a) a
  pub implied : (left a : Assertion) (tokens : List Token) → (openings n).implied left a tokens
      → (right : Assertion) × (a ≡ Implication left right) × ((left' : Assertion) → plain_assertion left' ≡ plain_assertion left → Prints ((openings t).implied left') plain_assertion tokens (kinds.Arrow ∷ printed right) (Implication left right))

module _ (n t : ℕ) (inner : Inner n t) where
  abbrev o : Openings
  o = openings n

  abbrev w : Openings
  w = openings t

  unit_bare : (limit : ℕ) (a : Assertion) (tokens : List Token) → IsUnitWith o a tokens → looseness a ≤ limit → Prints (Within limit w) plain_assertion tokens (printed a) a
  unit_bare limit a tokens (inl d) le = inner.bare limit a tokens d le
  unit_bare limit a tokens (inr (inl d)) le = prints_same printed a Truth d.is_second.0 (unit_to w limit (prints_inr (prints_inl (prints_end (λ at. Truth) kinds.True tt (λ at. refl)))))
  unit_bare limit a tokens (inr (inr (inl d))) le = prints_same printed a Falsity d.is_second.0 (unit_to w limit (prints_inr (prints_inr (prints_inl (prints_end (λ at. Falsity) kinds.False tt (λ at. refl))))))
  unit_bare limit a tokens (inr (inr (inr d))) le = unit_to w limit (prints_inr (prints_inr (prints_inr (prints_comparison a tokens d))))

  unit_loose : (a : Assertion) (tokens : List Token) → IsUnitWith o a tokens → 0 < looseness a → Prints (IsUnitWith w) plain_assertion tokens (in_parens a) a
  unit_loose a tokens (inl d) lt = inner.loose a tokens d lt
  unit_loose a tokens (inr (inl d)) lt = let e : looseness a ≡ 0 = ap looseness d.is_second.0 in absurd (omega arith)
  unit_loose a tokens (inr (inr (inl d))) lt = let e : looseness a ≡ 0 = ap looseness d.is_second.0 in absurd (omega arith)
  unit_loose a tokens (inr (inr (inr d))) lt = let e : looseness a ≡ 0 = ap looseness d.is_second.is_second.is_second.0 in absurd (omega arith)

  unit_fitted : (a : Assertion) (tokens : List Token) → IsUnitWith o a tokens → Prints (IsUnitWith w) plain_assertion tokens (fitted 0 a) a
  unit_fitted a tokens d = elim (cases_lt 0 (looseness a)) [
    | inl lt ↦ prints_as (in_parens a) (fitted 0 a) (fitted_parens 0 a lt) (unit_loose a tokens d lt)
    | inr le ↦ prints_as (printed a) (fitted 0 a) (fitted_bare 0 a le) (unit_bare 0 a tokens d le)
  ]

  -- ---- conjunctions

  conj_list : (a : Assertion) (tokens : List Token) (d : IsConjunctionWith o a tokens) → Prints (IsConjunctionWith w) plain_assertion tokens (joined (fitted 0) later_and d.head) a
  conj_list a tokens d =
      prints_last d conjunction (joined (fitted 0) later_and d.head)
      (prints_separated kinds.And tt (IsUnitWith o) (IsUnitWith w) plain_assertion (fitted 0) unit_fitted later_and refl (λ x xs. refl) d.head d.front d.is_first)
      (λ all e. plain_conjunction all ∙ ap conjunction e ∙ sym (plain_conjunction d.head) ∙ ap plain_assertion (sym d.is_second.0))

  conj_bare_by : (others : List Assertion) (limit : ℕ) (a : Assertion) (tokens : List Token) (d : IsConjunctionWith o a tokens) → d.is_first.is_second.head ≡ others → looseness a ≤ limit
      → Prints (Within limit w) plain_assertion tokens (printed a) a
  conj_bare_by [] limit a tokens d e le =
      let s = d.is_first in
      let same : a ≡ s.head = d.is_second.0 ∙ ap conjunction (s.is_second.is_second.0 ∙ ap (λ (zs : List Assertion). s.head ∷ zs) e) in
      prints_same printed a s.head same
      (prints_within (λ g. front_good s (front_good d g)) (unit_bare limit s.head s.front s.is_first (subst (λ (x : Assertion). looseness x ≤ limit) same le)))
  conj_bare_by (y ∷ ys) limit a tokens d e le =
      let s = d.is_first in
      let all : d.head ≡ s.head ∷ y ∷ ys = s.is_second.is_second.0 ∙ ap (λ (zs : List Assertion). s.head ∷ zs) e in
      let same : a ≡ conjunction (s.head ∷ y ∷ ys) = d.is_second.0 ∙ ap conjunction all in
      let one : looseness a ≡ 1 = ap looseness same in
      conj_to w limit (omega arith) (prints_as (joined (fitted 0) later_and d.head) (printed a) (ap (joined (fitted 0) later_and) all ∙ ap printed (sym same)) (conj_list a tokens d))

  conj_bare : (limit : ℕ) (a : Assertion) (tokens : List Token) → IsConjunctionWith o a tokens → looseness a ≤ limit → Prints (Within limit w) plain_assertion tokens (printed a) a
  conj_bare limit a tokens d le = conj_bare_by d.is_first.is_second.head limit a tokens d refl le

  conj_loose_by : (others : List Assertion) (a : Assertion) (tokens : List Token) (d : IsConjunctionWith o a tokens) → d.is_first.is_second.head ≡ others → 1 < looseness a
      → Prints (IsUnitWith w) plain_assertion tokens (in_parens a) a
  conj_loose_by [] a tokens d e lt =
      let s = d.is_first in
      let same : a ≡ s.head = d.is_second.0 ∙ ap conjunction (s.is_second.is_second.0 ∙ ap (λ (zs : List Assertion). s.head ∷ zs) e) in
      let some : looseness a ≡ looseness s.head = ap looseness same in
      prints_same in_parens a s.head same (prints_within (λ g. front_good s (front_good d g)) (unit_loose s.head s.front s.is_first (omega arith)))
  conj_loose_by (y ∷ ys) a tokens d e lt =
      let s = d.is_first in
      let same : a ≡ conjunction (s.head ∷ y ∷ ys) = d.is_second.0 ∙ ap conjunction (s.is_second.is_second.0 ∙ ap (λ (zs : List Assertion). s.head ∷ zs) e) in
      let one : looseness a ≡ 1 = ap looseness same in
      absurd (omega arith)

  conj_loose : (a : Assertion) (tokens : List Token) → IsConjunctionWith o a tokens → 1 < looseness a → Prints (IsUnitWith w) plain_assertion tokens (in_parens a) a
  conj_loose a tokens d lt = conj_loose_by d.is_first.is_second.head a tokens d refl lt

  conj_fitted : (a : Assertion) (tokens : List Token) → IsConjunctionWith o a tokens → Prints (IsConjunctionWith w) plain_assertion tokens (fitted 1 a) a
  conj_fitted a tokens d = elim (cases_lt 1 (looseness a)) [
    | inl lt ↦ prints_as (in_parens a) (fitted 1 a) (fitted_parens 1 a lt) (conj_lift w (conj_loose a tokens d lt))
    | inr le ↦ prints_as (printed a) (fitted 1 a) (fitted_bare 1 a le) (conj_bare 1 a tokens d le)
  ]

  -- ---- disjunctions

  disj_list : (a : Assertion) (tokens : List Token) (d : IsDisjunctionWith o a tokens) → Prints (IsDisjunctionWith w) plain_assertion tokens (joined (fitted 1) later_or d.head) a
  disj_list a tokens d =
      prints_last d disjunction (joined (fitted 1) later_or d.head)
      (prints_separated kinds.Or tt (IsConjunctionWith o) (IsConjunctionWith w) plain_assertion (fitted 1) conj_fitted later_or refl (λ x xs. refl) d.head d.front d.is_first)
      (λ all e. plain_disjunction all ∙ ap disjunction e ∙ sym (plain_disjunction d.head) ∙ ap plain_assertion (sym d.is_second.0))

  disj_bare_by : (others : List Assertion) (limit : ℕ) (a : Assertion) (tokens : List Token) (d : IsDisjunctionWith o a tokens) → d.is_first.is_second.head ≡ others → looseness a ≤ limit
      → Prints (Within limit w) plain_assertion tokens (printed a) a
  disj_bare_by [] limit a tokens d e le =
      let s = d.is_first in
      let same : a ≡ s.head = d.is_second.0 ∙ ap disjunction (s.is_second.is_second.0 ∙ ap (λ (zs : List Assertion). s.head ∷ zs) e) in
      prints_same printed a s.head same
      (prints_within (λ g. front_good s (front_good d g)) (conj_bare limit s.head s.front s.is_first (subst (λ (x : Assertion). looseness x ≤ limit) same le)))
  disj_bare_by (y ∷ ys) limit a tokens d e le =
      let s = d.is_first in
      let all : d.head ≡ s.head ∷ y ∷ ys = s.is_second.is_second.0 ∙ ap (λ (zs : List Assertion). s.head ∷ zs) e in
      let same : a ≡ disjunction (s.head ∷ y ∷ ys) = d.is_second.0 ∙ ap disjunction all in
      let two : looseness a ≡ 2 = ap looseness same in
      disj_to w limit (omega arith) (prints_as (joined (fitted 1) later_or d.head) (printed a) (ap (joined (fitted 1) later_or) all ∙ ap printed (sym same)) (disj_list a tokens d))

  disj_bare : (limit : ℕ) (a : Assertion) (tokens : List Token) → IsDisjunctionWith o a tokens → looseness a ≤ limit → Prints (Within limit w) plain_assertion tokens (printed a) a
  disj_bare limit a tokens d le = disj_bare_by d.is_first.is_second.head limit a tokens d refl le

  disj_loose_by : (others : List Assertion) (a : Assertion) (tokens : List Token) (d : IsDisjunctionWith o a tokens) → d.is_first.is_second.head ≡ others → 2 < looseness a
      → Prints (IsUnitWith w) plain_assertion tokens (in_parens a) a
  disj_loose_by [] a tokens d e lt =
      let s = d.is_first in
      let same : a ≡ s.head = d.is_second.0 ∙ ap disjunction (s.is_second.is_second.0 ∙ ap (λ (zs : List Assertion). s.head ∷ zs) e) in
      let some : looseness a ≡ looseness s.head = ap looseness same in
      prints_same in_parens a s.head same (prints_within (λ g. front_good s (front_good d g)) (conj_loose s.head s.front s.is_first (omega arith)))
  disj_loose_by (y ∷ ys) a tokens d e lt =
      let s = d.is_first in
      let same : a ≡ disjunction (s.head ∷ y ∷ ys) = d.is_second.0 ∙ ap disjunction (s.is_second.is_second.0 ∙ ap (λ (zs : List Assertion). s.head ∷ zs) e) in
      let two : looseness a ≡ 2 = ap looseness same in
      absurd (omega arith)

  disj_fitted : (a : Assertion) (tokens : List Token) → IsDisjunctionWith o a tokens → Prints (IsDisjunctionWith w) plain_assertion tokens (fitted 2 a) a
  disj_fitted a tokens d = elim (cases_lt 2 (looseness a)) [
    | inl lt ↦ prints_as (in_parens a) (fitted 2 a) (fitted_parens 2 a lt) (disj_lift w (conj_lift w (disj_loose_by d.is_first.is_second.head a tokens d refl lt)))
    | inr le ↦ prints_as (printed a) (fitted 2 a) (fitted_bare 2 a le) (disj_bare 2 a tokens d le)
  ]

  -- ---- implications

  assert_bare : (limit : ℕ) (a : Assertion) (tokens : List Token) (d : IsAssertionWith o a tokens) → looseness a ≤ limit → Prints (Within limit w) plain_assertion tokens (printed a) a
  assert_bare limit a tokens d le = elim d.is_second [
    | inl i ↦
        let r = inner.implied d.head a d.back i in
        let three : looseness a ≡ 3 = ap looseness r.1 in
        prints_same printed a (Implication d.head r.0) r.1
        (assert_to w limit (omega arith) (prints_then d (fitted 2 d.head) (kinds.Arrow ∷ printed r.0) (disj_fitted d.head d.front d.is_first) (λ left e. prints_inl (r.2 left e))))
    | inr g ↦
        prints_same printed a d.head g.0 (prints_within (front_good d) (disj_bare limit d.head d.front d.is_first (subst (λ (x : Assertion). looseness x ≤ limit) g.0 le)))
  ]

-- ---- all levels

pub record Level (n t : ℕ) : Type 0 where
  pub bare : (limit : ℕ) (a : Assertion) (tokens : List Token) → IsAssertionWith (openings n) a tokens → looseness a ≤ limit → Prints (Within limit (openings t)) plain_assertion tokens (printed a) a
  pub unit : (a : Assertion) (tokens : List Token) → IsUnitWith (openings n) a tokens → Prints (IsUnitWith (openings t)) plain_assertion tokens (fitted 0 a) a

level_of : (n t : ℕ) → Inner n t → Level n t
level_of n t inner = record { bare = assert_bare n t inner; unit = unit_fitted n t inner }

no_inner : (t : ℕ) → Inner zero t
no_inner t = record { bare = λ limit a tokens d le. absurd d; loose = λ a tokens d lt. absurd d; implied = λ left a tokens d. absurd d }

-- read again with the same limit, or with one level less
inner_of : (m t : ℕ) → Level m t → Level m (suc t) → Inner (suc m) (suc t)
inner_of m t less same = record {
  bare = λ limit a tokens d le. elim d [
    | inl i ↦
        let b = i.is_second.head in
        prints_same printed a (Negation b) i.is_second.is_second.0
        (unit_to (openings (suc t)) limit (prints_inl (prints_inl (prints_word i kinds.Not (fitted 0 b) tt
        (λ at. prints_last i.is_second Negation (fitted 0 b) (less.unit b i.is_second.front i.is_second.is_first) (λ x e. ap Negation e))))))
    | inr i ↦
        let b = i.is_second.head in
        let eq = i.is_second.is_second.is_second.0 in
        prints_same printed a b eq (prints_within (λ g. front_good i.is_second (back_good i g)) (same.bare limit b i.is_second.front i.is_second.is_first (subst (λ (x : Assertion). looseness x ≤ limit) eq le)))
  ];
  loose = λ a tokens d lt. elim d [
    | inl i ↦ let e : looseness a ≡ 0 = ap looseness i.is_second.is_second.0 in absurd (omega arith)
    | inr i ↦
        let b = i.is_second.head in
        prints_same in_parens a b i.is_second.is_second.is_second.0
        (prints_inl (prints_inr (prints_word i kinds.OpenParen (printed b ++ kinds.CloseParen ∷ []) tt
        (λ at. prints_then i.is_second (printed b) (kinds.CloseParen ∷ []) (less.bare 3 b i.is_second.front i.is_second.is_first (looseness-le b))
        (λ x e. prints_end (λ end. x) kinds.CloseParen tt (λ end. e))))))
  ];
  implied = λ left a tokens d.
      let right = d.is_second.head in (
        right,
        d.is_second.is_second.0,
        λ left' e. prints_word d kinds.Arrow (printed right) tt
            (λ at. prints_last d.is_second (λ (x : Assertion). Implication left' x) (printed right) (less.bare 3 right d.is_second.front d.is_second.is_first (looseness-le right))
            (λ x ex. ap (λ (z : Assertion). Implication z (plain_assertion x)) e ∙ ap (λ (z : Assertion). Implication (plain_assertion left) z) ex)),
      );
}

levels : (n t : ℕ) → n ≤ t → Level n t
levels zero t le = level_of zero t (no_inner t)
levels (suc m) zero le = absurd (omega arith)
levels (suc m) (suc t) le = level_of (suc m) (suc t) (inner_of m t (levels m t (omega arith)) (levels m (suc t) (omega arith)))

pub prints_assertion : (n : ℕ) (a : Assertion) (tokens : List Token) → IsAssertionWith (openings n) a tokens → Prints (IsAssertionWith (openings n)) plain_assertion tokens (printed a) a
prints_assertion n a tokens d = (levels n n (omega arith)).bare 3 a tokens d (looseness-le a)
