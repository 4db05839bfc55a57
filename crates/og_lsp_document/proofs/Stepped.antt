-- Conditions about steps, and statements, one after another.
use Rattle.std.proofs.Common.{◌≡◌, ◌∙◌, ◌≤◌, ◌<◌, ℕ, zero, suc, ◌+◌, ◌==◌, List, [], ◌∷◌, ◌++◌, length, drop, map, Bool, true, false, cond, Option, Some, None, refl, sym, ap, subst, append-nil, append_assoc, arith}
use Rattle.std.specs.Prelude.{slice_get, flat_map, IfSome, not, ◌&&◌}
use Rattle.std.specs.List.{AllZip}
use Rattle.std.specs.BTreeMap.{BTreeMap}
use Rattle.std.proofs.lemmas.List.{drop_all}
use Rattle.std.proofs.lemmas.List.Elements.{All-cons, All-nil}
use Rattle.std.proofs.lemmas.List.Sums.{sum_by-cons}
use Rattle.og_typed.specs.Syntax.{Program}
use Rattle.og_cond.specs.Condition.{Condition}
use Rattle.og_report_prove.specs.Report.{is_proved}
use Rattle.og_report_prove.specs.declared.diagnosis.Diagnosis.{Diagnosis}
use Rattle.og_report_prove.proofs.Lists.{dropped}
use Rattle.og_report_text.specs.Origins.{Rows}
use Rattle.og_review_text.specs.Seen.{point_of}
use Rattle.og_review_text.specs.declared.walk.Point.{Point}
use Rattle.og_lsp_diagnostics.specs.Extents.{place_in}
use Rattle.og_lsp_document.specs.Parts.{found, with_all, is_at, is_unproved_at, asked_at, unproved_at}
use Rattle.og_lsp_document.specs.Stepping.{kept_at, kept_by, all_kept, conditions_in, unproved_in, placed, IsCounted, IsStatement, IsStatementIn, AreStatementsIn, AddsStatements, AreLeft}
use Rattle.og_lsp_document.specs.declared.judged.StatementCount.{StatementCount}
use Rattle.og_lsp_document.specs.declared.parts.Counts.{Counts}
use Rattle.og_lsp_document.proofs.Counting.{counted_few, plus, all_counted}

-- ---- conditions

with_kept : (p : ℕ) (o : Option Counts) (rows : Rows) (proved : Bool) (at : Option ℕ) (rest : List (ℕ × Bool)) → with_all p o (kept_at rows proved at ++ rest) ≡ with_all p (with_all p o (kept_at rows proved at)) rest
with_kept p o rows proved None rest = refl
with_kept p o rows proved (Some at) rest = refl

-- one condition more
pub kept_goes : (rows : Rows) (p i : ℕ) (cs : List Condition) (ts : List Diagnosis) (c : Condition) (t : Diagnosis) (o0 o1 whole : Option Counts)
    → slice_get cs i ≡ Some c → slice_get ts i ≡ Some t → o1 ≡ with_all p o0 (kept_by rows c (is_proved t))
    → with_all p o0 (all_kept rows (drop i cs) (drop i ts)) ≡ whole → with_all p o1 (all_kept rows (drop (i + 1) cs) (drop (i + 1) ts)) ≡ whole
kept_goes rows p i cs ts c t o0 o1 whole c_is t_is is so_far =
    ap (λ (o : Option Counts). with_all p o (all_kept rows (drop (i + 1) cs) (drop (i + 1) ts))) is
    ∙ sym (with_kept p o0 rows (is_proved t) c.action_at (all_kept rows (drop (i + 1) cs) (drop (i + 1) ts)))
    ∙ ap (λ (k : List Condition). with_all p o0 (all_kept rows k (t ∷ drop (i + 1) ts))) (sym (dropped cs i c c_is))
    ∙ ap (λ (k : List Diagnosis). with_all p o0 (all_kept rows (drop i cs) k)) (sym (dropped ts i t t_is))
    ∙ so_far

-- there are no more than were looked at
pub kept_few : (p : ℕ) (rows : Rows) (proved : Bool) (at : Option ℕ) (o : Option Counts) (i : ℕ) → IfSome o (λ c. (c.conditions ≤ i) × (c.unproved ≤ i))
    → IfSome (with_all p o (kept_at rows proved at)) (λ c. (c.conditions ≤ i + 1) × (c.unproved ≤ i + 1))
kept_few p rows proved None None i h = tt
kept_few p rows proved None (Some c) i h = let a = h.0 in let b = h.1 in (omega (arith, a), omega (arith, b))
kept_few p rows proved (Some at) o i h = counted_few (p == place_in rows at) proved o i h

pub few_bounded : (o : Option Counts) (i n : ℕ) → IfSome o (λ c. (c.conditions ≤ i) × (c.unproved ≤ i)) → i < n → n < 4294967296 → IfSome o (λ c. (c.conditions < 4294967296) × (c.unproved < 4294967296))
few_bounded None i n h less few = tt
few_bounded (Some c) i n h less few = let a = h.0 in let b = h.1 in (omega (arith, a, less, few), omega (arith, b, less, few))

-- ---- the counts

fewer : (p : ℕ) (all : List (ℕ × Bool)) → unproved_at p all ≤ asked_at p all
fewer p [] = omega arith
fewer p (a ∷ all) =
    let one = sum_by-cons (λ b. cond (is_at p b) 1 0) a all in
    let other = sum_by-cons (λ b. cond (is_unproved_at p b) 1 0) a all in
    let rest = fewer p all in
    let less = first (p == a.0) (not a.1) in
    omega (arith, one, other, rest, less)
  where
    first : (b n : Bool) → cond (b && n) 1 0 ≤ cond b 1 0
    first true true = omega arith
    first true false = omega arith
    first false n = omega arith

plus_conditions : (n u : ℕ) → conditions_in (plus None n u) ≡ n
plus_conditions zero u = refl
plus_conditions (suc n) u = refl

plus_unproved : (n u : ℕ) → u ≤ n → unproved_in (plus None n u) ≡ u
plus_unproved zero u less = omega (arith, less)
plus_unproved (suc n) u less = refl

pub conditions_found : (p : ℕ) (all : List (ℕ × Bool)) (o : Option Counts) → o ≡ with_all p None all → conditions_in o ≡ asked_at p all
conditions_found p all o is = ap conditions_in (is ∙ all_counted p all None) ∙ plus_conditions (asked_at p all) (unproved_at p all)

pub unproved_found : (p : ℕ) (all : List (ℕ × Bool)) (o : Option Counts) → o ≡ with_all p None all → unproved_in o ≡ unproved_at p all
unproved_found p all o is = ap unproved_in (is ∙ all_counted p all None) ∙ plus_unproved (asked_at p all) (unproved_at p all) (fewer p all)

-- ---- statements

zipped : {A B : Type 0} (R : A → B → Type 0) (xs : List A) (ys : List B) (us : List A) (vs : List B) → AllZip R xs ys → AllZip R us vs → AllZip R (xs ++ us) (ys ++ vs)
zipped R [] [] us vs these those = those
zipped R [] (y ∷ ys) us vs these those = absurd these
zipped R (x ∷ xs) [] us vs these those = absurd these
zipped R (x ∷ xs) (y ∷ ys) us vs these those = (these.0, zipped R xs ys us vs these.1 those)

-- the places of one point more
pub left_less : (text : List ℕ) (rows : Rows) (o : Program) (asked : BTreeMap ℕ Counts) (ps left all : List (ℕ × ℕ)) (old new : List StatementCount) → AddsStatements text rows o asked ps old new
    → AreLeft text rows o asked (ps ++ left) all old → AreLeft text rows o asked left all new
left_less text rows o asked ps left all old new adds so_far more are =
    subst (AllZip (IsCounted text rows o asked) all) (sym (ap (λ (xs : List StatementCount). xs ++ more) adds.2 ∙ append_assoc old adds.0 more))
    (so_far (adds.0 ++ more) (zipped (IsCounted text rows o asked) ps adds.0 left more adds.1 are))

-- no place is left
pub none_left : (text : List ℕ) (rows : Rows) (o : Program) (asked : BTreeMap ℕ Counts) (points : List Point) (i : ℕ) (all : List (ℕ × ℕ)) (ss : List StatementCount) → length points ≤ i
    → AreLeft text rows o asked (flat_map placed (map point_of (drop i points))) all ss → AllZip (IsCounted text rows o asked) all ss
none_left text rows o asked points i all ss less left =
    let R = IsCounted text rows o asked in
    subst (AllZip R all) (append-nil ss) (left [] (subst (λ those. AllZip R (flat_map placed (map point_of those)) []) (sym (drop_all i points less)) tt))

-- by the counts of all conditions
pub counted_statements : (text : List ℕ) (rows : Rows) (o : Program) (asked : BTreeMap ℕ Counts) (all : List (ℕ × Bool)) → ((p : ℕ) → found p asked ≡ with_all p None all)
    → (ps : List (ℕ × ℕ)) (ss : List StatementCount) → AllZip (IsCounted text rows o asked) ps ss → AllZip (IsStatement text rows o all) ps ss
counted_statements text rows o asked all counts [] [] these = tt
counted_statements text rows o asked all counts [] (s ∷ ss) these = absurd these
counted_statements text rows o asked all counts (p ∷ ps) [] these = absurd these
counted_statements text rows o asked all counts (p ∷ ps) (s ∷ ss) these =
    let at = place_in rows p.1 in (
      record {
        span = these.0.span;
        before = these.0.before;
        behind = these.0.behind;
        conditions = these.0.conditions ∙ conditions_found at all (found at asked) (counts at);
        unproved = these.0.unproved ∙ unproved_found at all (found at asked) (counts at);
      },
      counted_statements text rows o asked all counts ps ss these.1,
    )

pub counted_within : (text : List ℕ) (rows : Rows) (o : Program) (asked : BTreeMap ℕ Counts) (ps : List (ℕ × ℕ)) (ss : List StatementCount) → AllZip (IsCounted text rows o asked) ps ss → AreStatementsIn text ss
counted_within text rows o asked [] [] these = All-nil (IsStatementIn text)
counted_within text rows o asked [] (s ∷ ss) these = absurd these
counted_within text rows o asked (p ∷ ps) [] these = absurd these
counted_within text rows o asked (p ∷ ps) (s ∷ ss) these = All-cons (IsStatementIn text) s ss these.0.within (counted_within text rows o asked ps ss these.1)
