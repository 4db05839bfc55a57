-- Which variables stand in the forms that are collected.
use Rattle.std.proofs.Common.{◌≡◌, ℕ, ◌<◌, ◌≤◌, ℤ, pos, negsuc, ◌+ℤ◌, ◌*ℤ◌, List, [], ◌∷◌, length, Bool, true, false, ◌&&◌, cond, Option, Some, None, refl, subst, arith}
use Rattle.std.specs.Prelude.{nat_lt, Ok, Err, ◌||◌, position}
use Rattle.std.specs.List.{list_all, position_or_len}
use Rattle.std.specs.Ordering.{int_eq}
use Rattle.std.specs.Str.{bytes_eq}
use Rattle.std.proofs.lemmas.Bool.{cond_both, and_parts, lt-ltb, ltb-true, ne_eqb}
use Rattle.std.proofs.lemmas.Option.{none-some, same_Some}
use Rattle.og_linear.specs.Linear.{Terms, FormValue, form_value, is_term, is_small}
use Rattle.og_linear.specs.Arith.{with_term, scale_terms, merge_in, merge, scaled, plus, variable}
use Rattle.og_parse.specs.declared.raw.RawName.{RawName}
use Rattle.og_parse.specs.declared.raw.RawTerm.{RawTerm}
use Rattle.og_parse.specs.declared.raw.RawFactor.{RawFactor}
use Rattle.og_parse.specs.declared.raw.RawFactor.TheVariants as factors
use Rattle.og_parse.specs.declared.raw.Relation.{Relation}
use Rattle.og_parse.specs.declared.raw.Relation.TheVariants as relations
use Rattle.og_parse.specs.Trees as tree
use Rattle.og_typed.specs.declared.fault.TypeFault.{TypeFault}
use Rattle.og_typed.specs.Syntax.{Formula, Formulas, True, False, Le, Eq, Ne, Not, And, Or, Imp, none, more}
use Rattle.og_typed.specs.Forms.{each_form, each_form_in}
use Rattle.og_typed.specs.Occurs.{occurs, occurs_in}
use Rattle.og_typed.specs.Rule.{is_usable_form, IsUsable}
use Rattle.og_typed.specs.Resolved.{Checked, ◌>>=◌, Scope, Use, Outer, Visible, Free, number_in, number_as, aux_number, number, signed, factor, sum_from, sum_form, minus, plus_one, compared, small_at, comparison, assertion, assertions}

-- ---- answers

pub bound_ok : {A B : Type 0} (a : Checked A) (f : A → Checked B) (b : B) → a >>= f ≡ Ok b → (x : A) × (a ≡ Ok x) × (f x ≡ Ok b)
bound_ok (Ok x) f b e = (x, refl, e)
bound_ok (Err fault) f b e = absurd cc

pub ok_same : {A : Type 0} (x y : A) → ◌≡◌ {A = Checked A} (Ok x) (Ok y) → x ≡ y
ok_same x y e = cc

pub and_both : (b d : Bool) → b ≡ true → d ≡ true → (b && d) ≡ true
and_both true d h k = k
and_both false d h k = h

-- what a test lets through
pub passed : {A : Type 0} (b : Bool) (x y : A) (fault : TypeFault) → ◌≡◌ {A = Checked A} (cond b (Ok x) (Err fault)) (Ok y) → (b ≡ true) × (x ≡ y)
passed true x y fault e = (refl, ok_same x y e)
passed false x y fault e = absurd cc

-- ---- terms

abbrev pub are_below : ℕ → List (ℕ × ℤ) → Bool
are_below n = list_all (λ t. nat_lt t.0 n)

below_one : (n x : ℕ) (c : ℤ) (rest : Terms) → x < n → are_below n rest ≡ true → are_below n (with_term x c rest) ≡ true
below_one n x c rest lt h =
    cond_both (int_eq c (pos 0)) rest ((x, c) ∷ rest) (λ ts. are_below n ts ≡ true) (λ e. h) (λ e. and_both _ _ (lt-ltb x n lt) h)

below_scaled : (n : ℕ) (k : ℤ) (ts : Terms) → are_below n ts ≡ true → are_below n (scale_terms k ts) ≡ true
below_scaled n k [] h = refl
below_scaled n k (t ∷ ts) h =
    let both = and_parts (nat_lt t.0 n) (are_below n ts) h in
    below_one n t.0 (k *ℤ t.1) (scale_terms k ts) (ltb-true t.0 n both.0) (below_scaled n k ts both.1)

below_merged_in : (n : ℕ) (t : ℕ × ℤ) (ts : Terms) → are_below n (t ∷ ts) ≡ true → ((us : Terms) → are_below n us ≡ true → are_below n (merge ts us) ≡ true) → (us : Terms) → are_below n us ≡ true → are_below n (merge_in t (merge ts) us) ≡ true
below_merged_in n t ts h rec [] k = and_both _ _ (and_parts (nat_lt t.0 n) (are_below n ts) h).0 (rec [] refl)
below_merged_in n t ts h rec (u ∷ us) k =
    let left = and_parts (nat_lt t.0 n) (are_below n ts) h in
    let right = and_parts (nat_lt u.0 n) (are_below n us) k in
    cond_both (nat_lt t.0 u.0) _ _ (λ r. are_below n r ≡ true)
    (λ e. and_both _ _ left.0 (rec (u ∷ us) k))
    (λ e. cond_both (nat_lt u.0 t.0) _ _ (λ r. are_below n r ≡ true)
    (λ f. and_both _ _ right.0 (below_merged_in n t ts h rec us right.1))
    (λ f. below_one n t.0 (t.1 +ℤ u.1) (merge ts us) (ltb-true t.0 n left.0) (rec us right.1)))

below_merged : (n : ℕ) (ts us : Terms) → are_below n ts ≡ true → are_below n us ≡ true → are_below n (merge ts us) ≡ true
below_merged n [] us h k = k
below_merged n (t ∷ ts) us h k = below_merged_in n t ts h (λ vs w. below_merged n ts vs (and_parts (nat_lt t.0 n) (are_below n ts) h).1 w) us k

below_more : (n m : ℕ) (ts : Terms) → n ≤ m → are_below n ts ≡ true → are_below m ts ≡ true
below_more n m [] le h = refl
below_more n m (t ∷ ts) le h =
    let both = and_parts (nat_lt t.0 n) (are_below n ts) h in
    let lt = ltb-true t.0 n both.0 in
    and_both _ _ (lt-ltb t.0 m (omega (arith, lt, le))) (below_more n m ts le both.1)

or_false : (b d : Bool) → b ≡ false → d ≡ false → (b || d) ≡ false
or_false true d h k = h
or_false false d h k = k

pub plain_form : (n : ℕ) (ts : Terms) (x : ℕ) → are_below n ts ≡ true → n ≤ x → is_term x ts ≡ false
plain_form n [] x h le = refl
plain_form n (t ∷ ts) x h le =
    let both = and_parts (nat_lt t.0 n) (are_below n ts) h in
    let lt = ltb-true t.0 n both.0 in
    or_false _ _ (ne_eqb x t.0 (λ e. omega (arith, e, lt, le))) (plain_form n ts x both.1 le)

-- ---- forms and formulas

pub usable_terms : (n : ℕ) (f : FormValue) → is_usable_form n f ≡ true → are_below n f.terms ≡ true
usable_terms n f h = (and_parts (is_small f) (are_below n f.terms) h).1

pub usable_form_more : (n m : ℕ) (f : FormValue) → n ≤ m → is_usable_form n f ≡ true → is_usable_form m f ≡ true
usable_form_more n m f le h =
    let both = and_parts (is_small f) (are_below n f.terms) h in and_both _ _ both.0 (below_more n m f.terms le both.1)

mutual
  pub usable_more : (n m : ℕ) → n ≤ m → (a : Formula) → IsUsable n a → IsUsable m a
  usable_more n m le True h = refl
  usable_more n m le False h = refl
  usable_more n m le (Le f) h = usable_form_more n m f le h
  usable_more n m le (Eq f) h = usable_form_more n m f le h
  usable_more n m le (Ne f) h = usable_form_more n m f le h
  usable_more n m le (Not a) h = usable_more n m le a h
  usable_more n m le (And all) h = usable_more_in n m le all h
  usable_more n m le (Or all) h = usable_more_in n m le all h
  usable_more n m le (Imp a b) h =
      let both = and_parts (each_form (is_usable_form n) a) (each_form (is_usable_form n) b) h in
      and_both _ _ (usable_more n m le a both.0) (usable_more n m le b both.1)

  usable_more_in : (n m : ℕ) → n ≤ m → (all : Formulas) → each_form_in (is_usable_form n) all ≡ true → each_form_in (is_usable_form m) all ≡ true
  usable_more_in n m le none h = refl
  usable_more_in n m le (more a rest) h =
      let both = and_parts (each_form (is_usable_form n) a) (each_form_in (is_usable_form n) rest) h in
      and_both _ _ (usable_more n m le a both.0) (usable_more_in n m le rest both.1)

mutual
  pub usable_plain : (n x : ℕ) → n ≤ x → (a : Formula) → IsUsable n a → occurs x a ≡ false
  usable_plain n x le True h = refl
  usable_plain n x le False h = refl
  usable_plain n x le (Le f) h = plain_form n f.terms x (usable_terms n f h) le
  usable_plain n x le (Eq f) h = plain_form n f.terms x (usable_terms n f h) le
  usable_plain n x le (Ne f) h = plain_form n f.terms x (usable_terms n f h) le
  usable_plain n x le (Not a) h = usable_plain n x le a h
  usable_plain n x le (And all) h = usable_plain_in n x le all h
  usable_plain n x le (Or all) h = usable_plain_in n x le all h
  usable_plain n x le (Imp a b) h =
      let both = and_parts (each_form (is_usable_form n) a) (each_form (is_usable_form n) b) h in
      or_false _ _ (usable_plain n x le a both.0) (usable_plain n x le b both.1)

  usable_plain_in : (n x : ℕ) → n ≤ x → (all : Formulas) → each_form_in (is_usable_form n) all ≡ true → occurs_in x all ≡ false
  usable_plain_in n x le none h = refl
  usable_plain_in n x le (more a rest) h =
      let both = and_parts (each_form (is_usable_form n) a) (each_form_in (is_usable_form n) rest) h in
      or_false _ _ (usable_plain n x le a both.0) (usable_plain_in n x le rest both.1)

-- ---- names

-- below which number a used name's number lies
abbrev pub limit : Scope → Use → ℕ
limit scope Outer = scope.vars
limit scope Visible = scope.vars
limit scope Free = length scope.names

position_below : {X : Type 0} (test : X → Bool) (xs : List X) (i : ℕ) → position test xs ≡ Some i → i < length xs
position_below test xs i e = go (nat_lt (position_or_len test xs) (length xs)) refl e
  where
    go : (b : Bool) → nat_lt (position_or_len test xs) (length xs) ≡ b → cond b (Some (position_or_len test xs)) None ≡ Some i → i < length xs
    go true t h = subst (λ k. k < length xs) (same_Some (position_or_len test xs) i h) (ltb-true _ _ t)
    go false t h = absurd (none-some i h)

aux_case : (scope : Scope) (use_of : Use) (y at x : ℕ) → y < length scope.names → aux_number use_of y at ≡ Ok x → x < limit scope use_of
aux_case scope Outer y at x lt e = absurd cc
aux_case scope Visible y at x lt e = absurd cc
aux_case scope Free y at x lt e = subst (λ k. k < length scope.names) (ok_same y x e) lt

var_case : (scope : Scope) (use_of : Use) (y : ℕ) → y < length scope.names → y < scope.vars → y < limit scope use_of
var_case scope Outer y lt var = var
var_case scope Visible y lt var = var
var_case scope Free y lt var = lt

pub number_below : (scope : Scope) (use_of : Use) (name : RawName) (x : ℕ) → number scope use_of name ≡ Ok x → x < limit scope use_of
number_below scope use_of name x e = go (number_in scope.names name.name) refl e
  where
    known : (y : ℕ) → y < length scope.names → (b : Bool) → nat_lt y scope.vars ≡ b → ◌≡◌ {A = Checked ℕ} (cond b (Ok y) (aux_number use_of y name.span.start)) (Ok x) → x < limit scope use_of
    known y lt true t h = subst (λ k. k < limit scope use_of) (ok_same y x h) (var_case scope use_of y lt (ltb-true y scope.vars t))
    known y lt false t h = aux_case scope use_of y name.span.start x lt h

    go : (o : Option ℕ) → number_in scope.names name.name ≡ o → number_as o scope use_of name.span.start ≡ Ok x → x < limit scope use_of
    go None q h = absurd cc
    go (Some y) q h = known y (position_below (bytes_eq name.name) scope.names y q) (nat_lt y scope.vars) refl h

-- ---- sums and comparisons

factor_below : (scope : Scope) (use_of : Use) (f : RawFactor) (p : ℕ × FormValue) → factor scope use_of f ≡ Ok p → are_below (limit scope use_of) p.1.terms ≡ true
factor_below scope use_of (factors.Number n) p e = subst (λ (q : ℕ × FormValue). are_below (limit scope use_of) q.1.terms ≡ true) (ok_same (n, form_value [] (pos 1)) p e) refl
factor_below scope use_of (factors.Variable name) p e =
    let b = bound_ok (number scope use_of name) (λ x. Ok (1, variable x)) p e in
    subst (λ (q : ℕ × FormValue). are_below (limit scope use_of) q.1.terms ≡ true) (ok_same (1, variable b.0) p b.2)
    (and_both _ _ (lt-ltb b.0 (limit scope use_of) (number_below scope use_of name b.0 b.1)) refl)
factor_below scope use_of (factors.Product n name) p e =
    let b = bound_ok (number scope use_of name) (λ x. Ok (n, variable x)) p e in
    subst (λ (q : ℕ × FormValue). are_below (limit scope use_of) q.1.terms ≡ true) (ok_same (n, variable b.0) p b.2)
    (and_both _ _ (lt-ltb b.0 (limit scope use_of) (number_below scope use_of name b.0 b.1)) refl)

sum_below : (scope : Scope) (use_of : Use) (total f : FormValue) (terms : List RawTerm) → are_below (limit scope use_of) total.terms ≡ true → sum_from scope use_of total terms ≡ Ok f → are_below (limit scope use_of) f.terms ≡ true
sum_below scope use_of total f [] h e = subst (λ g. are_below (limit scope use_of) g.terms ≡ true) (ok_same total f e) h
sum_below scope use_of total f (term ∷ terms) h e =
    let n = limit scope use_of in
    let b = bound_ok (factor scope use_of term.factor) (λ p. sum_from scope use_of (plus total (scaled (signed term.sign (pos p.0)) p.1)) terms) f e in
    sum_below scope use_of (plus total (scaled (signed term.sign (pos b.0.0)) b.0.1)) f terms
    (below_merged n total.terms _ h (below_scaled n (signed term.sign (pos b.0.0)) b.0.1.terms (factor_below scope use_of term.factor b.0 b.1))) b.2

pub form_below : (scope : Scope) (use_of : Use) (sum : tree.Sum) (f : FormValue) → sum_form scope use_of sum ≡ Ok f → are_below (limit scope use_of) f.terms ≡ true
form_below scope use_of sum f e = sum_below scope use_of (form_value [] (pos 0)) f sum.value refl e

minus_below : (n : ℕ) (f g : FormValue) → are_below n f.terms ≡ true → are_below n g.terms ≡ true → are_below n (minus f g).terms ≡ true
minus_below n f g h k = below_merged n f.terms _ h (below_scaled n (negsuc 0) g.terms k)

more_below : (n : ℕ) (f : FormValue) → are_below n f.terms ≡ true → are_below n (plus_one f).terms ≡ true
more_below n f h = below_merged n f.terms [] h refl

compared_below : (n : ℕ) (relation : Relation) (f g : FormValue) → are_below n f.terms ≡ true → are_below n g.terms ≡ true → each_form is_small (compared relation f g) ≡ true → IsUsable n (compared relation f g)
compared_below n relations.LessEqual f g h k small = and_both _ _ small (minus_below n f g h k)
compared_below n relations.Less f g h k small = and_both _ _ small (more_below n (minus f g) (minus_below n f g h k))
compared_below n relations.GreaterEqual f g h k small = and_both _ _ small (minus_below n g f k h)
compared_below n relations.Greater f g h k small = and_both _ _ small (more_below n (minus g f) (minus_below n g f k h))
compared_below n relations.Equal f g h k small = and_both _ _ small (minus_below n f g h k)
compared_below n relations.NotEqual f g h k small = and_both _ _ small (minus_below n f g h k)

comparison_usable : (scope : Scope) (use_of : Use) (left : tree.Sum) (relation : Relation) (right : tree.Sum) (a : Formula) → comparison scope use_of left relation right ≡ Ok a → IsUsable (limit scope use_of) a
comparison_usable scope use_of left relation right a e =
    let p = bound_ok (sum_form scope use_of left) (λ f. sum_form scope use_of right >>= λ g. small_at left.place.start (compared relation f g)) a e in
    let q = bound_ok (sum_form scope use_of right) (λ g. small_at left.place.start (compared relation p.0 g)) a p.2 in
    let r = passed (each_form is_small (compared relation p.0 q.0)) (compared relation p.0 q.0) a _ q.2 in
    subst (IsUsable (limit scope use_of)) r.1
    (compared_below (limit scope use_of) relation p.0 q.0 (form_below scope use_of left p.0 p.1) (form_below scope use_of right q.0 q.1) r.0)

-- ---- assertions

mutual
  pub assertion_usable : (scope : Scope) (use_of : Use) (a : tree.Assertion) (f : Formula) → assertion scope use_of a ≡ Ok f → IsUsable (limit scope use_of) f
  assertion_usable scope use_of tree.Truth f e = subst (IsUsable (limit scope use_of)) (ok_same True f e) refl
  assertion_usable scope use_of tree.Falsity f e = subst (IsUsable (limit scope use_of)) (ok_same False f e) refl
  assertion_usable scope use_of (tree.Comparison left relation right) f e = comparison_usable scope use_of left relation right f e
  assertion_usable scope use_of (tree.Negation a) f e =
      let b = bound_ok (assertion scope use_of a) (λ g. Ok (Not g)) f e in
      subst (IsUsable (limit scope use_of)) (ok_same (Not b.0) f b.2) (assertion_usable scope use_of a b.0 b.1)
  assertion_usable scope use_of (tree.Conjunction all) f e =
      let b = bound_ok (assertions scope use_of all) (λ gs. Ok (And gs)) f e in
      subst (IsUsable (limit scope use_of)) (ok_same (And b.0) f b.2) (assertions_usable scope use_of all b.0 b.1)
  assertion_usable scope use_of (tree.Disjunction all) f e =
      let b = bound_ok (assertions scope use_of all) (λ gs. Ok (Or gs)) f e in
      subst (IsUsable (limit scope use_of)) (ok_same (Or b.0) f b.2) (assertions_usable scope use_of all b.0 b.1)
  assertion_usable scope use_of (tree.Implication a c) f e =
      let b = bound_ok (assertion scope use_of a) (λ g. assertion scope use_of c >>= λ h. Ok (Imp g h)) f e in
      let d = bound_ok (assertion scope use_of c) (λ h. Ok (Imp b.0 h)) f b.2 in
      subst (IsUsable (limit scope use_of)) (ok_same (Imp b.0 d.0) f d.2)
      (and_both _ _ (assertion_usable scope use_of a b.0 b.1) (assertion_usable scope use_of c d.0 d.1))

  assertions_usable : (scope : Scope) (use_of : Use) (all : tree.Assertions) (fs : Formulas) → assertions scope use_of all ≡ Ok fs → each_form_in (is_usable_form (limit scope use_of)) fs ≡ true
  assertions_usable scope use_of tree.none fs e = subst (λ gs. each_form_in (is_usable_form (limit scope use_of)) gs ≡ true) (ok_same none fs e) refl
  assertions_usable scope use_of (tree.more a others) fs e =
      let b = bound_ok (assertion scope use_of a) (λ g. assertions scope use_of others >>= λ gs. Ok (more g gs)) fs e in
      let d = bound_ok (assertions scope use_of others) (λ gs. Ok (more b.0 gs)) fs b.2 in
      subst (λ gs. each_form_in (is_usable_form (limit scope use_of)) gs ≡ true) (ok_same (more b.0 d.0) fs d.2)
      (and_both _ _ (assertion_usable scope use_of a b.0 b.1) (assertions_usable scope use_of others d.0 d.1))
