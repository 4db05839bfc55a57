-- Conditions, counted one after another.
use Rattle.std.proofs.Common.{◌≡◌, ◌∙◌, ◌≤◌, ◌<◌, ℕ, zero, suc, ◌+◌, ◌==◌, List, [], ◌∷◌, drop, map, Bool, true, false, true≢false, cond, Option, Some, None, refl, sym, ap, ap₂, subst, arith}
use Rattle.std.specs.Prelude.{slice_get, IfSome, IsSome, All, not, ◌&&◌, ◌↔◌}
use Rattle.std.specs.Cmp.{nat_cmp_total}
use Rattle.std.proofs.lemmas.List.Elements.{All-head, All-tail}
use Rattle.std.proofs.lemmas.List.Sums.{sum_by-cons}
use Rattle.std.proofs.lemmas.Map.Lookups.{exact_unsigned}
use Rattle.std.proofs.lemmas.Map.Views.{All-found, btree_map_contains_key_iff}
use Rattle.std.proofs.lemmas.Option.{none-some, same_Some}
use Rattle.std.proofs.lemmas.Simd.{map-map}
use Rattle.std.proofs.lemmas.Bool.{eqb-true}
use Rattle.std.proofs.lemmas.Bool.Decides.{nat_tests}
use Rattle.std.specs.Ordering.{nat_cmp, is_eq}
use Rattle.std.specs.BTreeMap.{BTreeMap, UpdatesBy, IsOrdered, keys}
use Rattle.og_cond.specs.Condition.{Condition}
use Rattle.og_report_prove.specs.Report.{is_proved}
use Rattle.og_report_prove.specs.declared.diagnosis.Diagnosis.{Diagnosis}
use Rattle.og_report_prove.proofs.Lists.{dropped}
use Rattle.og_report_text.specs.Origins.{Rows}
use Rattle.og_lsp_diagnostics.specs.Extents.{place_in, part_span}
use Rattle.og_lsp_document.specs.Parts.{asked, found, with_one, counted, with_all, is_at, is_unproved_at, asked_at, unproved_at, part_at, part_of, AreParts}
use Rattle.og_lsp_document.specs.declared.judged.PartCount.{PartCount}
use Rattle.og_lsp_document.specs.declared.parts.Counts.{Counts}

same_test : (at p : ℕ) → is_eq (nat_cmp at p) ≡ (p == at)
same_test at p = grind (arith, nat_tests)

pub one_added : (old new : BTreeMap ℕ Counts) (at : ℕ) (proved : Bool) (w : Counts) → w ≡ with_one proved (found at old) → UpdatesBy nat_cmp (nat_cmp at) old new (Some w)
    → (p : ℕ) → found p new ≡ counted (p == at) proved (found p old)
one_added old new at proved w is h p = h.0 p ∙ ap (λ (b : Bool). cond b (Some w) (found p old)) (same_test at p) ∙ from (p == at) refl
  where
    from : (b : Bool) → (p == at) ≡ b → cond b (Some w) (found p old) ≡ counted b proved (found p old)
    from true e = ap (λ (x : Counts). Some x) is ∙ ap (λ (x : ℕ). Some (with_one proved (found x old))) (sym (eqb-true p at e))
    from false e = refl

-- one condition more
pub asked_goes : (rows : Rows) (p i : ℕ) (cs : List Condition) (ts : List Diagnosis) (c : Condition) (t : Diagnosis) (o0 o1 whole : Option Counts)
    → slice_get cs i ≡ Some c → slice_get ts i ≡ Some t → o1 ≡ counted (p == place_in rows c.at) (is_proved t) o0
    → with_all p o0 (asked rows (drop i cs) (drop i ts)) ≡ whole → with_all p o1 (asked rows (drop (i + 1) cs) (drop (i + 1) ts)) ≡ whole
asked_goes rows p i cs ts c t o0 o1 whole c_is t_is is so_far =
    ap (λ (o : Option Counts). with_all p o (asked rows (drop (i + 1) cs) (drop (i + 1) ts))) is
    ∙ ap (λ (k : List Condition). with_all p o0 (asked rows k (t ∷ drop (i + 1) ts))) (sym (dropped cs i c c_is))
    ∙ ap (λ (k : List Diagnosis). with_all p o0 (asked rows (drop i cs) k)) (sym (dropped ts i t t_is))
    ∙ so_far

-- there are no more than were looked at
pub counted_few : (b proved : Bool) (o : Option Counts) (i : ℕ) → IfSome o (λ c. (c.conditions ≤ i) × (c.unproved ≤ i))
    → IfSome (counted b proved o) (λ c. (c.conditions ≤ i + 1) × (c.unproved ≤ i + 1))
counted_few false proved None i h = tt
counted_few false proved (Some c) i h = let a = h.0 in let b = h.1 in (omega (arith, a), omega (arith, b))
counted_few true true None i h = (omega arith, omega arith)
counted_few true false None i h = (omega arith, omega arith)
counted_few true true (Some c) i h = let a = h.0 in let b = h.1 in (omega (arith, a), omega (arith, b))
counted_few true false (Some c) i h = let a = h.0 in let b = h.1 in (omega (arith, a), omega (arith, b))

-- ---- all of them

abbrev pub counts_of : ℕ → ℕ → Counts
counts_of n u = record { conditions = n; unproved = u }

-- with so many more
abbrev pub plus : Option Counts → ℕ → ℕ → Option Counts
plus None zero u = None
plus None (suc n) u = Some (counts_of (suc n) u)
plus (Some c) n u = Some (counts_of (c.conditions + n) (c.unproved + u))

same_counts : (a b c d : ℕ) → a ≡ b → c ≡ d → Some (counts_of a c) ≡ Some (counts_of b d)
same_counts a b c d e f = ap₂ (λ (x y : ℕ). Some (counts_of x y)) e f

one_more : (b proved : Bool) (o : Option Counts) (n u n' u' : ℕ) → n' ≡ cond b 1 0 + n → u' ≡ cond (b && not proved) 1 0 + u → plus (counted b proved o) n u ≡ plus o n' u'
one_more false proved o n u n' u' e f =
    let first : n ≡ n' = omega (arith, e) in
    let second : u ≡ u' = omega (arith, f) in
    ap₂ (plus o) first second
one_more true true None n u zero u' e f = absurd (omega (arith, e))
one_more true true None n u (suc m) u' e f = same_counts (1 + n) (suc m) (0 + u) u' (omega (arith, e)) (omega (arith, f))
one_more true false None n u zero u' e f = absurd (omega (arith, e))
one_more true false None n u (suc m) u' e f = same_counts (1 + n) (suc m) (1 + u) u' (omega (arith, e)) (omega (arith, f))
one_more true true (Some c) n u n' u' e f = same_counts (c.conditions + 1 + n) (c.conditions + n') (c.unproved + 0 + u) (c.unproved + u') (omega (arith, e)) (omega (arith, f))
one_more true false (Some c) n u n' u' e f = same_counts (c.conditions + 1 + n) (c.conditions + n') (c.unproved + 1 + u) (c.unproved + u') (omega (arith, e)) (omega (arith, f))

pub all_counted : (p : ℕ) (all : List (ℕ × Bool)) (o : Option Counts) → with_all p o all ≡ plus o (asked_at p all) (unproved_at p all)
all_counted p [] None = refl
all_counted p [] (Some c) = same_counts c.conditions (c.conditions + 0) c.unproved (c.unproved + 0) (omega arith) (omega arith)
all_counted p (a ∷ all) o =
    all_counted p all (counted (p == a.0) a.1 o)
    ∙ one_more (p == a.0) a.1 o (asked_at p all) (unproved_at p all) (asked_at p (a ∷ all)) (unproved_at p (a ∷ all))
    (sum_by-cons (λ b. cond (is_at p b) 1 0) a all) (sum_by-cons (λ b. cond (is_unproved_at p b) 1 0) a all)

-- ---- the parts

some_counts : (n u : ℕ) (c : Counts) → Some c ≡ plus None n u → (c.conditions ≡ n) × (c.unproved ≡ u)
some_counts zero u c is = absurd (none-some c (sym is))
some_counts (suc n) u c is = let same = same_Some c (counts_of (suc n) u) is in (ap (λ d. d.conditions) same, ap (λ d. d.unproved) same)

positive : (n u : ℕ) (o : Option Counts) → o ≡ plus None n u → IsSome o ↔ (0 < n)
positive zero u o is = (λ some. absurd (true≢false (sym (subst IsSome is some))), λ less. absurd (omega (arith, less)))
positive (suc n) u o is = (λ some. omega arith, λ less. subst IsSome (sym is) refl)

map_where : {X Y : Type 0} (P : X → Type 0) (f g : X → Y) → ((x : X) → P x → f x ≡ g x) → (xs : List X) → All P xs → map f xs ≡ map g xs
map_where P f g same [] all = refl
map_where P f g same (x ∷ xs) all = ap₂ (λ y ys. y ∷ ys) (same x (All-head P x xs all)) (map_where P f g same xs (All-tail P x xs all))

pub are_parts : (text : List ℕ) (all : List (ℕ × Bool)) (m : BTreeMap ℕ Counts) (parts : List PartCount) → IsOrdered nat_cmp m → ((p : ℕ) → found p m ≡ with_all p None all)
    → parts ≡ map (part_of text) m.entries → AreParts text all parts
are_parts text all m parts ordered counts those =
    let is = λ (p : ℕ). counts p ∙ all_counted p all None in
    let iff = λ (p : ℕ). btree_map_contains_key_iff nat_cmp_total exact_unsigned m p in
    let some = λ (p : ℕ). positive (asked_at p all) (unproved_at p all) (found p m) (is p) in
    let same = λ (e : ℕ × Counts) (at : found e.0 m ≡ Some e.1).
    let c = some_counts (asked_at e.0 all) (unproved_at e.0 all) e.1 (sym at ∙ is e.0) in
    ap₂ (λ (x y : ℕ). let part : PartCount = record { span = part_span text e.0; conditions = x; unproved = y } in part) c.0 c.1 in
    record {
      places = keys m;
      order = ordered;
      those = λ p. (λ has. (some p).0 ((iff p).1 has), λ less. (iff p).0 ((some p).1 less));
      counted = those ∙ map_where (λ e. found e.0 m ≡ Some e.1) (part_of text) (λ e. part_at text all e.0) same m.entries (All-found nat_cmp_total m ordered) ∙ sym (map-map (part_at text all) (λ e. e.0) m.entries);
    }
