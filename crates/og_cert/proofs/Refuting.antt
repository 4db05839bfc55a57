-- Facts that a certificate closes are not all true in a proper state.
use Rattle.std.proofs.Common.{◌≡◌, ℕ, zero, suc, ◌≤◌, ℤ, pos, negsuc, ◌*ℤ◌, List, [], ◌∷◌, ◌++◌, length, Bool, true, false, not, ◌&&◌, ◌||◌, cond, Some, Ok, Err, refl, sym, ap, ap₂, ◌∙◌, subst, arith, ⊎_elim, ok_or}
use Rattle.std.specs.Prelude.{int_le, int_lt, nat_lt, slice_get, FitsSigned, ◌≤ℤ◌}
use mir.Syntax.{w64}
use Rattle.std.specs.List.{list_all, AllByRecursion}
use Rattle.std.proofs.lemmas.List.Elements.{recursion_from_All}
use Rattle.std.proofs.Math.Nat.{mul-le-mul_left}
use Rattle.std.proofs.lemmas.Int.{ints}
use Rattle.std.proofs.lemmas.Bool.{and_parts, and_from, or_cases, true≢false, cases_Bool}
use borrow.Author.Differences.{up, down}
use Rattle.og_linear.specs.Linear.{Terms, FormValue, form_value, val, val_terms, value_at, IsProper}
use Rattle.og_linear.specs.Bounded.{add_scaled, cut, fits_form}
use Rattle.og_linear.proofs.Values.{val-add_scaled, val-scaled}
use Rattle.og_linear.proofs.Cuts.{cut_said}
use Rattle.og_cond.specs.Condition.{assignments, Condition}
use Rattle.og_cond.specs.Valid.{IsValid, goal_true}
use Rattle.og_facts.specs.Facts.{Fact, Atom, Split, Parts, no_part, part, Facts, no_fact, fact, list_of_facts, list_of_parts, plus_one, negated, facts_of}
use Rattle.og_facts.specs.Truth.{fact_true, some_part_true, facts_true, all_true_at}
use Rattle.og_facts.proofs.Refuted.{facts_said}
use Rattle.og_facts.specs.Listed.{numbered}
use Rattle.og_cert_text.specs.Tree.{Ref, Known, Low, High, Combination, Cert, Sum, Cut, Close, Branch, SplitOn, Certs, no_cert, cert}
use Rattle.og_cert_text.specs.Lines.{cert_count}
use Rattle.og_cert.specs.declared.fault.FaultKind.TheVariants as kinds
use Rattle.og_cert.specs.Checks.{fact_at, atom_in, split_in, atom_at, parts_at, room, low_form, high_form, form_at, add_term, add_terms, combination, is_positive, closing, cut_at, otherwise, one_each}
use Rattle.og_cert.specs.Closes.{closes, closes_parts}
use Rattle.og_cert.proofs.Passing.{then_ok, some_from_or, passed, ok_cond}

-- ---- single facts

listed_true : (s : List ℤ) (fs : List Fact) (i : ℕ) (f : Fact) → slice_get fs i ≡ Some f → all_true_at s fs ≡ true → fact_true s f ≡ true
listed_true s [] i f e h = absurd (cc)
listed_true s (g ∷ fs) zero f e h =
    let same : g ≡ f = cc in
    subst (λ x. fact_true s x ≡ true) same (and_parts (fact_true s g) (all_true_at s fs) h).0
listed_true s (g ∷ fs) (suc i) f e h = listed_true s fs i f e (and_parts (fact_true s g) (all_true_at s fs) h).1

numbered_true : (s : List ℤ) (fs : List Fact) (i : ℕ) (f : Fact) → numbered i fs ≡ Some f → all_true_at s fs ≡ true → fact_true s f ≡ true
numbered_true s fs zero f e h = absurd (cc)
numbered_true s fs (suc i) f e h = listed_true s fs i f e h

fact_said : (s : List ℤ) (fs : List Fact) (i : ℕ) (f : Fact) → all_true_at s fs ≡ true → fact_at fs i ≡ Ok f → fact_true s f ≡ true
fact_said s fs i f h e = numbered_true s fs i f (some_from_or (numbered i fs) kinds.NoSuchFact f e) h

atom_is : (f : Fact) (g : FormValue) → atom_in f ≡ Ok g → f ≡ Atom g
atom_is (Atom h) g e = let same : h ≡ g = cc in ap Atom same
atom_is (Split ps) g e = absurd (cc)

at_most_zero : (v : ℤ) → int_le v (pos 0) ≡ true → v ≤ℤ pos 0
at_most_zero v e = omega (arith, ints)

atom_said : (s : List ℤ) (fs : List Fact) (i : ℕ) (g : FormValue) → all_true_at s fs ≡ true → atom_at fs i ≡ Ok g → val g s ≤ℤ pos 0
atom_said s fs i g h e =
    let p = then_ok (fact_at fs i) atom_in g e in
    at_most_zero (val g s) (subst (λ f. fact_true s f ≡ true) (atom_is p.0 g p.2) (fact_said s fs i p.0 h p.1))

-- a value of a proper state, and 0 beyond its end
in_range : (s : List ℤ) (v : ℕ) → AllByRecursion (FitsSigned w64) s → FitsSigned w64 (value_at s v)
in_range [] v h = record { sfits = omega arith }
in_range (x ∷ s) zero h = h.0
in_range (x ∷ s) (suc v) h = in_range s v h.1

value_in_range : (s : List ℤ) (v : ℕ) → IsProper s → FitsSigned w64 (value_at s v)
value_in_range s v h = in_range s v (recursion_from_All (FitsSigned w64) s h)

form_said : (n : ℕ) (s : List ℤ) (fs : List Fact) (r : Ref) (g : FormValue) → IsProper s → all_true_at s fs ≡ true → form_at n fs r ≡ Ok g → val g s ≤ℤ pos 0
form_said n s fs (Known i) g proper h e = atom_said s fs i g h e
form_said n s fs (Low v) g proper h e =
    let range = value_in_range s v proper in
    subst (λ f. val f s ≤ℤ pos 0) (ok_cond (nat_lt v n) (low_form v) g kinds.NoSuchFact e).1 (omega (arith, ints))
form_said n s fs (High v) g proper h e =
    let range = value_in_range s v proper in
    subst (λ f. val f s ≤ℤ pos 0) (ok_cond (nat_lt v n) (high_form v) g kinds.NoSuchFact e).1 (omega (arith, ints))

-- ---- combinations

-- a multiple of a value at most 0
multiple : (m : ℕ) (v : ℤ) → v ≤ℤ pos 0 → (pos m *ℤ v) ≤ℤ pos 0
multiple m v h =
    let k : up v ≤ down v = omega (arith, ints) in
    omega (arith, ints, mul-le-mul_left m k)

term_said : (n : ℕ) (s : List ℤ) (fs : List Fact) (sum : FormValue) (t : ℕ × Ref) (g : FormValue) → IsProper s → all_true_at s fs ≡ true → val sum s ≤ℤ pos 0 → add_term n fs sum t ≡ Ok g → val g s ≤ℤ pos 0
term_said n s fs sum t g proper h k e =
    let p = then_ok (form_at n fs t.1) (λ f. ok_or (add_scaled sum (pos t.0) f) kinds.TooLarge) g e in
    let added = val-add_scaled sum (pos t.0) p.0 g s (some_from_or (add_scaled sum (pos t.0) p.0) kinds.TooLarge g p.2) in
    let scaled_said = multiple t.0 (val p.0 s) (form_said n s fs t.1 p.0 proper h p.1) in
    omega (arith, ints, added, scaled_said, k)

terms_said : (n : ℕ) (s : List ℤ) (fs : List Fact) (ts : Combination) (sum g : FormValue) → IsProper s → all_true_at s fs ≡ true → val sum s ≤ℤ pos 0 → add_terms n fs sum ts ≡ Ok g → val g s ≤ℤ pos 0
terms_said n s fs [] sum g proper h k e =
    let same : sum ≡ g = cc in
    subst (λ f. val f s ≤ℤ pos 0) same k
terms_said n s fs (t ∷ ts) sum g proper h k e =
    let p = then_ok (add_term n fs sum t) (λ next. add_terms n fs next ts) g e in
    terms_said n s fs ts p.0 g proper h (term_said n s fs sum t p.0 proper h k p.1) p.2

combination_said : (n : ℕ) (s : List ℤ) (fs : List Fact) (ts : Combination) (g : FormValue) → IsProper s → all_true_at s fs ≡ true → combination n fs ts ≡ Ok g → val g s ≤ℤ pos 0
combination_said n s fs ts g proper h e = terms_said n s fs ts (form_value [] (pos 0)) g proper h (omega (arith, ints)) e

no_terms : (ts : Terms) (s : List ℤ) → list_all (λ t. false) ts ≡ true → val_terms ts s ≡ pos 0
no_terms [] s e = refl
no_terms (t ∷ ts) s e = absurd (cc)

positive_said : (g : FormValue) (s : List ℤ) → is_positive g ≡ true → val g s ≤ℤ pos 0 → ⊥
positive_said g s e h =
    let both = and_parts (list_all (λ t. false) g.terms) (int_lt (pos 0) g.constant) e in
    let zero_terms = no_terms g.terms s both.0 in
    let positive : int_lt (pos 0) g.constant ≡ true = both.1 in
    omega (arith, ints, zero_terms)

closing_said : (n : ℕ) (s : List ℤ) (fs : List Fact) (ts : Combination) (u : Unit {0}) → IsProper s → all_true_at s fs ≡ true → closing n fs ts ≡ Ok u → ⊥
closing_said n s fs ts u proper h e =
    let p = then_ok (combination n fs ts) (λ f. cond (is_positive f) (Ok tt) (Err kinds.NotClosed)) u e in
    positive_said p.0 s (ok_cond (is_positive p.0) tt u kinds.NotClosed p.2).0 (combination_said n s fs ts p.0 proper h p.1)

-- ---- more facts

and_assoc : (a b c : Bool) → ((a && b) && c) ≡ (a && (b && c))
and_assoc true b c = refl
and_assoc false b c = refl

both_true : (s : List ℤ) (xs ys : List Fact) → all_true_at s (xs ++ ys) ≡ (all_true_at s xs && all_true_at s ys)
both_true s [] ys = refl
both_true s (x ∷ xs) ys = ap (λ b. fact_true s x && b) (both_true s xs ys) ∙ sym (and_assoc (fact_true s x) (all_true_at s xs) (all_true_at s ys))

one_more : (s : List ℤ) (fs : List Fact) (g : FormValue) → all_true_at s fs ≡ true → val g s ≤ℤ pos 0 → all_true_at s (fs ++ Atom g ∷ []) ≡ true
one_more s fs g h k =
    let le : true ≡ int_le (val g s) (pos 0) = omega (arith, ints) in
    both_true s fs (Atom g ∷ []) ∙ and_from _ _ h (and_from _ _ (sym le) refl)

part_listed : (s : List ℤ) (p : Facts) → facts_true s p ≡ all_true_at s (list_of_facts p)
part_listed s no_fact = refl
part_listed s (fact f fs) = ap (λ b. fact_true s f && b) (part_listed s fs)

abbrev some_listed : List ℤ → List (List Fact) → Bool
some_listed s [] = false
some_listed s (p ∷ ps) = all_true_at s p || some_listed s ps

parts_listed : (s : List ℤ) (ps : Parts) → some_part_true s ps ≡ some_listed s (list_of_parts ps)
parts_listed s no_part = refl
parts_listed s (part p ps) = ap₂ ◌||◌ (part_listed s p) (parts_listed s ps)

split_is : (s : List ℤ) (f : Fact) (ps : List (List Fact)) → split_in f ≡ Ok ps → fact_true s f ≡ true → some_listed s ps ≡ true
split_is s (Atom g) ps e h = absurd (cc)
split_is s (Split parts) ps e h =
    let same : list_of_parts parts ≡ ps = cc in
    subst (λ x. some_listed s x ≡ true) same (sym (parts_listed s parts) ∙ h)

otherwise_is : (n : ℕ) (f g : FormValue) → otherwise n f ≡ Ok g → g ≡ plus_one (negated f)
otherwise_is n f g e = go (list_all (λ t. nat_lt t.0 n) f.terms) (fits_form (negated f) && fits_form (plus_one (negated f))) e
  where
    go : (a b : Bool) → cond a (cond b (Ok (plus_one (negated f))) (Err kinds.TooLarge)) (Err kinds.NoSuchFact) ≡ Ok g → g ≡ plus_one (negated f)
    go true true h = cc
    go true false h = absurd (cc)
    go false b h = absurd (cc)

-- a form above 0 is at least 1
above_zero : (f : FormValue) (s : List ℤ) → int_le (val f s) (pos 0) ≡ false → val (plus_one (negated f)) s ≤ℤ pos 0
above_zero f s e = omega (arith, ints, val-scaled (negsuc 0) f s)

-- ---- certificates

module _ (n : ℕ) (s : List ℤ) (proper : IsProper s) where
  mutual
    pub closed_is_false : (c : Cert) (fs : List Fact) → closes n fs c ≡ true → all_true_at s fs ≡ true → ⊥
    closed_is_false (Sum ts c) fs e h =
        let p = passed (combination n fs ts) _ e in
        let q = passed (room fs 1) (λ _. closes n (fs ++ Atom p.0 ∷ []) c) p.2 in
        closed_is_false c (fs ++ Atom p.0 ∷ []) q.2 (one_more s fs p.0 h (combination_said n s fs ts p.0 proper h p.1))
    closed_is_false (Cut i d c) fs e h =
        let p = passed (cut_at fs i d) _ e in
        let q = passed (room fs 1) (λ _. closes n (fs ++ Atom p.0 ∷ []) c) p.2 in
        let r = then_ok (atom_at fs i) (λ f. ok_or (cut f (pos d)) kinds.NotDivisible) p.0 p.1 in
        closed_is_false c (fs ++ Atom p.0 ∷ []) q.2
        (one_more s fs p.0 h ((cut_said r.0 p.0 (pos d) s (some_from_or (cut r.0 (pos d)) kinds.NotDivisible p.0 r.2)).0 (atom_said s fs i r.0 h r.1)))
    closed_is_false (Close ts) fs e h =
        let p = passed (closing n fs ts) _ e in
        closing_said n s fs ts p.0 proper h p.1
    closed_is_false (Branch f c d) fs e h =
        let p = passed (otherwise n f) _ e in
        let q = passed (room fs 1) (λ _. closes n (fs ++ Atom f ∷ []) c && closes n (fs ++ Atom p.0 ∷ []) d) p.2 in
        let both = and_parts (closes n (fs ++ Atom f ∷ []) c) (closes n (fs ++ Atom p.0 ∷ []) d) q.2 in
        let other : p.0 ≡ plus_one (negated f) = otherwise_is n f p.0 p.1 in
        ⊎_elim
        (λ low. closed_is_false c (fs ++ Atom f ∷ []) both.0 (one_more s fs f h (at_most_zero (val f s) low)))
        (λ high. closed_is_false d (fs ++ Atom p.0 ∷ []) both.1 (one_more s fs p.0 h (subst (λ g. val g s ≤ℤ pos 0) (sym other) (above_zero f s high))))
        (cases_Bool (int_le (val f s) (pos 0)))
    closed_is_false (SplitOn i cs) fs e h =
        let p = passed (parts_at fs i) _ e in
        let q = passed (one_each (length p.0) (cert_count cs)) (λ _. closes_parts n fs p.0 cs) p.2 in
        let r = then_ok (fact_at fs i) split_in p.0 p.1 in
        parts_are_false cs fs p.0 q.2 h (split_is s r.0 p.0 r.2 (fact_said s fs i r.0 h r.1))

    parts_are_false : (cs : Certs) (fs : List Fact) (ps : List (List Fact)) → closes_parts n fs ps cs ≡ true → all_true_at s fs ≡ true → some_listed s ps ≡ true → ⊥
    parts_are_false no_cert fs [] e h k = true≢false (sym k)
    parts_are_false no_cert fs (p ∷ ps) e h k = true≢false (sym e)
    parts_are_false (cert c cs) fs [] e h k = true≢false (sym k)
    parts_are_false (cert c cs) fs (p ∷ ps) e h k =
        let q = passed (room fs (length p)) (λ _. closes n (fs ++ p) c && closes_parts n fs ps cs) e in
        let both = and_parts (closes n (fs ++ p) c) (closes_parts n fs ps cs) q.2 in
        ⊎_elim
        (λ here. closed_is_false c (fs ++ p) both.0 (both_true s fs p ∙ and_from _ _ h here))
        (λ later. parts_are_false cs fs ps both.1 h later)
        (or_cases (all_true_at s p) (some_listed s ps) k)

-- ---- conditions

-- a condition whose facts a certificate closes is true
pub closed_is_valid : (c : Condition) (n : ℕ) (fs : List Fact) (proof : Cert) → facts_of c ≡ Ok fs → closes n fs proof ≡ true → IsValid c
closed_is_valid c n fs proof e closed s proper given =
    go (goal_true s (assignments c.action) c.goal) refl
  where
    go : (b : Bool) → goal_true s (assignments c.action) c.goal ≡ b → goal_true s (assignments c.action) c.goal ≡ true
    go true g = g
    go false g = absurd (closed_is_false n s proper proof fs closed (facts_said c fs s e ∙ and_from _ _ given (ap not g)))
