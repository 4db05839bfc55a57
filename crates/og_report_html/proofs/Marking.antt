-- Marks, added one after another.
use Rattle.std.proofs.Common.{◌≡◌, ℕ, ◌+◌, ◌==◌, List, [], ◌∷◌, drop, Bool, true, false, cond, Option, Some, None, refl, ap, ap₂, sym, ◌∙◌, arith}
use Rattle.std.proofs.lemmas.Bool.{eqb-true}
use Rattle.std.proofs.lemmas.Bool.Decides.{nat_tests}
use Rattle.std.specs.Ordering.{nat_cmp, is_eq}
use Rattle.std.specs.BTreeMap.{BTreeMap, UpdatesBy}
use Rattle.std.specs.Prelude.{slice_get}
use Rattle.og_cond.specs.Condition.{Condition}
use Rattle.og_report_text.specs.Origins.{Rows}
use Rattle.og_report_prove.specs.declared.diagnosis.Diagnosis.{Diagnosis}
use Rattle.og_report_prove.proofs.Lists.{dropped}
use Rattle.og_report_html.specs.Marks.{found, joined, marked, marked_place, shown_at, is_action, mark_of, with_diagnosis, with_all}
use Rattle.og_report_html.specs.declared.marks.Mark.{Mark}
use Rattle.og_report_html.specs.declared.target.Target.{Target}

same_test : (at p : ℕ) → is_eq (nat_cmp at p) ≡ (p == at)
same_test at p = grind (arith, nat_tests)

pub mark_added : (old new : BTreeMap ℕ Mark) (at : ℕ) (m j : Mark) → j ≡ joined (found at old) m → UpdatesBy nat_cmp (nat_cmp at) old new (Some j)
    → (p : ℕ) → found p new ≡ marked (p == at) (Some m) (found p old)
mark_added old new at m j is h p = h.0 p ∙ ap (λ (b : Bool). cond b (Some j) (found p old)) (same_test at p) ∙ from (p == at) refl
  where
    from : (b : Bool) → (p == at) ≡ b → cond b (Some j) (found p old) ≡ marked b (Some m) (found p old)
    from true e = ap (λ (x : Mark). Some x) is ∙ ap (λ (x : ℕ). Some (joined (found x old) m)) (sym (eqb-true p at e))
    from false e = refl

-- a condition that makes no mark
unmarked : (b : Bool) (o : Option Mark) → marked b None o ≡ o
unmarked true o = refl
unmarked false o = refl

module _ (rows : Rows) where
  pub none_told : (p n : ℕ) (c : Condition) (t : Diagnosis) (g : Target) (o : Option Mark) → mark_of n t ≡ None → o ≡ with_diagnosis rows p n c t g o
  none_told p n c t g o is =
      sym (ap (λ (m : Option Mark). marked (is_action rows p c.action_at) m (marked (p == shown_at rows (marked_place c t g)) m o)) is
      ∙ unmarked (is_action rows p c.action_at) (marked (p == shown_at rows (marked_place c t g)) None o) ∙ unmarked (p == shown_at rows (marked_place c t g)) o)

  pub both_told : (p n : ℕ) (c : Condition) (t : Diagnosis) (g : Target) (m : Mark) (o0 o1 o2 : Option Mark) → mark_of n t ≡ Some m
      → o1 ≡ marked (p == shown_at rows (marked_place c t g)) (Some m) o0 → o2 ≡ marked (is_action rows p c.action_at) (Some m) o1 → o2 ≡ with_diagnosis rows p n c t g o0
  both_told p n c t g m o0 o1 o2 is first second =
      second ∙ ap (marked (is_action rows p c.action_at) (Some m)) first
      ∙ ap (λ (k : Option Mark). marked (is_action rows p c.action_at) k (marked (p == shown_at rows (marked_place c t g)) k o0)) (sym is)

  -- one condition more
  pub diagnosis_goes : (p i : ℕ) (cs : List Condition) (ts : List Diagnosis) (gs : List Target) (c : Condition) (t : Diagnosis) (g : Target) (o0 o1 whole : Option Mark)
      → slice_get cs i ≡ Some c → slice_get ts i ≡ Some t → slice_get gs i ≡ Some g → o1 ≡ with_diagnosis rows p (i + 1) c t g o0
      → with_all rows p o0 (i + 1) (drop i cs) (drop i ts) (drop i gs) ≡ whole
      → with_all rows p o1 (i + 1 + 1) (drop (i + 1) cs) (drop (i + 1) ts) (drop (i + 1) gs) ≡ whole
  diagnosis_goes p i cs ts gs c t g o0 o1 whole c_is t_is g_is is so_far =
      ap (λ (o : Option Mark). with_all rows p o (i + 1 + 1) (drop (i + 1) cs) (drop (i + 1) ts) (drop (i + 1) gs)) is
      ∙ ap (λ (k : List Condition). with_all rows p o0 (i + 1) k (t ∷ drop (i + 1) ts) (g ∷ drop (i + 1) gs)) (sym (dropped cs i c c_is))
      ∙ ap₂ (λ (k : List Diagnosis) (l : List Target). with_all rows p o0 (i + 1) (drop i cs) k l) (sym (dropped ts i t t_is)) (sym (dropped gs i g g_is))
      ∙ so_far

  pub told_ends : (p n : ℕ) (o : Option Mark) (cs : List Condition) (ts : List Diagnosis) (gs : List Target) → cs ≡ [] → o ≡ with_all rows p o n cs ts gs
  told_ends p n o cs ts gs is = sym (ap (λ (k : List Condition). with_all rows p o n k ts gs) is)
