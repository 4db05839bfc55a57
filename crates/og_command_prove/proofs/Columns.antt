-- What is found of conditions, by columns.
use Rattle.std.proofs.Common.{◌≡◌, ◌≢◌, ◌<◌, ◌≤◌, ◌+◌, ⊎_elim, ℕ, suc, ℤ, List, [], ◌∷◌, ◌++◌, length, map, set, get_or, Bool, true, false, true≢false, ◌||◌, refl, sym, ap, subst, ◌∙◌, arith, Option, Some, None, Bor, Vec, option_map, IfSome}
use Rattle.std.specs.Prelude.{IsSomeAnd, slice_get}
use Rattle.std.specs.Global.{Global}
use Rattle.std.proofs.lemmas.Bool.{cases_eq}
use Rattle.std.proofs.lemmas.List.{length-set, length_push, get_or_append_left, get_or_push, get_or_default, get_or-map, get_or-set_same, get_or-set_other}
use Rattle.std.proofs.lemmas.Option.{slice_get-map, slice_get_read}
use Rattle.og_typed.specs.Syntax.{Program}
use Rattle.og_cond.specs.Condition.{Condition}
use Rattle.og_find.specs.Found.{IsFalseAt, IsVerdict}
use Rattle.og_find.specs.declared.verdict.Verdict.{Verdict}
use Rattle.og_find_all.specs.Findings.{AreVerdicts, verdict_of}
use Rattle.og_find_all.specs.declared.findings.Findings.{Findings}
use Rattle.og_report_findings.specs.Verdicts.{has_false}
use Rattle.og_report_findings.specs.declared.suggestion.Suggestion.{Suggestion}
use Rattle.og_report_prove.specs.Diagnosis.{IsDiagnosis, AreDiagnoses}
use Rattle.og_report_prove.specs.Report.{is_false}
use Rattle.og_report_prove.specs.declared.diagnosis.Diagnosis.{Diagnosis}
use Rattle.og_report_prove.specs.declared.diagnosis.Diagnosis.TheVariants as diagnosis
use Rattle.og_report_runs.specs.declared.witness.Run.{Run}
use Rattle.og_report_runs.specs.declared.witness.Run.TheVariants as run
use Rattle.og_command_prove.specs.Advice.{places_of, IsAdvice, AreAdvised}
use Rattle.og_command_prove.specs.Found.{Starts, HasFalse, IsFound, AreFoundOf}

-- the verdict at this index is true of the condition there
pub verdict_true : {X : Type 0} (view : X → Condition) (all : List X) (f : Findings) (i : ℕ) (x : X) (r : Option (Bor Verdict)) → AreVerdicts (map view all) f → i < length all → x ≡ get_or all i x
    → option_map (λ v. v.now) r ≡ verdict_of f i → IfSome r (λ v. IsVerdict (view x) v.now)
verdict_true view all f i x None are lt at is = tt
verdict_true view all f i x (Some v) are lt at is =
    let there : slice_get (map view all) i ≡ Some (view x) = slice_get-map view all i ∙ ap (option_map view) (slice_get_read all (length all) i x refl lt at) in
    subst (λ o. IsSomeAnd o (IsVerdict (view x))) (sym is) (are.1 i (view x) there)

-- ---- up to an index

-- what is found of the first n
pub record AreFoundTo (o : Program) (lists : Option Starts) (cs : List Condition) (n : ℕ) (ts : List Diagnosis) (rs : List Run) : Type 0 where
  pub diagnoses : length ts ≡ n
  pub runs : length rs ≡ n
  pub each : (i : ℕ) (c : Condition) (t : Diagnosis) (r : Run) → i < n → IsFound o lists (get_or cs i c) (get_or ts i t) (get_or rs i r)

found_as : (o : Program) (lists : Option Starts) (c d : Condition) (t u : Diagnosis) (r s : Run) → c ≡ d → t ≡ u → r ≡ s → IsFound o lists d u s → IsFound o lists c t r
found_as o lists c d t u r s cd tu rs h = subst (λ z. IsFound o lists z t r) (sym cd) (subst (λ z. IsFound o lists d z r) (sym tu) (subst (IsFound o lists d u) (sym rs) h))

pub found_more : (o : Program) (lists : Option Starts) (cs : List Condition) (n : ℕ) (ts : List Diagnosis) (rs : List Run) (t : Diagnosis) (r : Run) → n < length cs → AreFoundTo o lists cs n ts rs
    → ((c : Condition) → IsFound o lists (get_or cs n c) t r) → AreFoundTo o lists cs (n + 1) (ts ++ t ∷ []) (rs ++ r ∷ [])
found_more o lists cs n ts rs t r lt h new = record {
  diagnoses = length_push ts t ∙ ap (λ k. k + 1) h.diagnoses;
  runs = length_push rs r ∙ ap (λ k. k + 1) h.runs;
  each = λ i c u s less. ⊎_elim
      (λ (e : i ≡ n). found_as o lists (get_or cs i c) (get_or cs n c) (get_or (ts ++ t ∷ []) i u) t (get_or (rs ++ r ∷ []) i s) r
      (ap (λ k. get_or cs k c) e) (get_or_push ts t u i (h.diagnoses ∙ sym e)) (get_or_push rs r s i (h.runs ∙ sym e)) (new c))
      (λ (e : i ≢ n).
      let below : i < n = omega (arith, less, e) in
      found_as o lists (get_or cs i c) (get_or cs i c) (get_or (ts ++ t ∷ []) i u) (get_or ts i u) (get_or (rs ++ r ∷ []) i s) (get_or rs i s)
      refl (get_or_append_left ts (t ∷ []) u i (omega (arith, h.diagnoses, below))) (get_or_append_left rs (r ∷ []) s i (omega (arith, h.runs, below))) (h.each i c u s below))
      (cases_eq i n);
}

pub found_all : (o : Program) (lists : Option Starts) (cs : List Condition) (n : ℕ) (ts : List Diagnosis) (rs : List Run) → n ≡ length cs → AreFoundTo o lists cs n ts rs → AreFoundOf o lists cs ts rs
found_all o lists cs n ts rs is h = record {
  diagnoses = h.diagnoses ∙ is;
  runs = h.runs ∙ is;
  each = λ i c t r less. h.each i c t r (omega (arith, less, is));
}

-- ---- followed up to an index

-- the runs to the first n have been followed
pub record AreFollowed (o : Program) (lists : Starts) (cs : List Condition) (n : ℕ) (ts : List Diagnosis) (rs : List Run) : Type 0 where
  pub diagnoses : length ts ≡ length cs
  pub runs : length rs ≡ length cs
  pub before : (i : ℕ) (c : Condition) (t : Diagnosis) (r : Run) → i < n → i < length cs → IsFound o (Some lists) (get_or cs i c) (get_or ts i t) (get_or rs i r)
  pub behind : (i : ℕ) (c : Condition) (t : Diagnosis) (r : Run) → n ≤ i → i < length cs → IsFound o None (get_or cs i c) (get_or ts i t) (get_or rs i r)

pub followed_none : (o : Program) (lists : Starts) (cs : List Condition) (ts : List Diagnosis) (rs : List Run) → AreFoundOf o None cs ts rs → AreFollowed o lists cs 0 ts rs
followed_none o lists cs ts rs h = record {
  diagnoses = h.diagnoses;
  runs = h.runs;
  before = λ i c t r no. absurd (omega (arith, no));
  behind = λ i c t r le less. h.each i c t r less;
}

pub followed_more : (o : Program) (lists : Starts) (cs : List Condition) (n : ℕ) (ts : List Diagnosis) (rs : List Run) (t : Diagnosis) (r : Run) → n < length cs → AreFollowed o lists cs n ts rs
    → ((c : Condition) → IsFound o (Some lists) (get_or cs n c) t r) → AreFollowed o lists cs (n + 1) (set ts n t) (set rs n r)
followed_more o lists cs n ts rs t r lt h new = record {
  diagnoses = length-set ts n t ∙ h.diagnoses;
  runs = length-set rs n r ∙ h.runs;
  before = λ i c u s less inside. ⊎_elim
      (λ (e : i ≡ n). found_as o (Some lists) (get_or cs i c) (get_or cs n c) (get_or (set ts n t) i u) t (get_or (set rs n r) i s) r
      (ap (λ k. get_or cs k c) e)
      (ap (λ k. get_or (set ts n t) k u) e ∙ get_or-set_same ts n t u (omega (arith, h.diagnoses, lt)))
      (ap (λ k. get_or (set rs n r) k s) e ∙ get_or-set_same rs n r s (omega (arith, h.runs, lt))) (new c))
      (λ (e : i ≢ n). found_as o (Some lists) (get_or cs i c) (get_or cs i c) (get_or (set ts n t) i u) (get_or ts i u) (get_or (set rs n r) i s) (get_or rs i s)
      refl (get_or-set_other ts n i t u e) (get_or-set_other rs n i r s e) (h.before i c u s (omega (arith, less, e)) inside))
      (cases_eq i n);
  behind = λ i c u s le inside.
      let e : i ≢ n = λ same. omega (arith, le, same) in
      found_as o None (get_or cs i c) (get_or cs i c) (get_or (set ts n t) i u) (get_or ts i u) (get_or (set rs n r) i s) (get_or rs i s)
      refl (get_or-set_other ts n i t u e) (get_or-set_other rs n i r s e) (h.behind i c u s (omega (arith, le)) inside);
}

pub followed_all : (o : Program) (lists : Starts) (cs : List Condition) (n : ℕ) (ts : List Diagnosis) (rs : List Run) → n ≡ length cs → AreFollowed o lists cs n ts rs → AreFoundOf o (Some lists) cs ts rs
followed_all o lists cs n ts rs is h = record {
  diagnoses = h.diagnoses;
  runs = h.runs;
  each = λ i c t r less. h.before i c t r (omega (arith, less, is)) less;
}

-- a list's condition at an index, by what shows it
pub shown_at : {X : Type 0} (view : X → Condition) (xs : List X) (n : ℕ) (x : X) (c : Condition) → n < length xs → x ≡ get_or xs n x → get_or (map view xs) n c ≡ view x
shown_at view xs n x c lt at = get_or-map view xs n x c lt ∙ ap view (sym at)

pub diagnosis_at : (ts : List Diagnosis) (n : ℕ) (t u : Diagnosis) → n < length ts → t ≡ get_or ts n t → t ≡ get_or ts n u
diagnosis_at ts n t u lt at = at ∙ get_or_default ts n t u lt

-- ---- the diagnoses

diagnosis_of : (o : Program) (lists : Option Starts) (c : Condition) (t : Diagnosis) (r : Run) → IsFound o lists c t r → IsDiagnosis o c t
diagnosis_of o None c t r h = h.0
diagnosis_of o (Some lists) c t r h = h.0

-- each is of the condition at its place
abbrev Suit : Program → List Condition → List Diagnosis → Type 0
Suit o cs ts = (i : ℕ) (c : Condition) (t : Diagnosis) → i < length cs → IsDiagnosis o (get_or cs i c) (get_or ts i t)

diagnosed : (o : Program) (cs : List Condition) (ts : List Diagnosis) → length ts ≡ length cs → Suit o cs ts → AreDiagnoses o cs ts
diagnosed o [] [] same h = tt
diagnosed o [] (t ∷ ts) same h = let no : ⊥ = omega (arith, same) in absurd no
diagnosed o (c ∷ cs) [] same h = let no : ⊥ = omega (arith, same) in absurd no
diagnosed o (c ∷ cs) (t ∷ ts) same h = (h 0 c t (omega arith), diagnosed o cs ts (omega (arith, same)) (λ i d u less. h (suc i) d u (omega (arith, less))))

suited : (o : Program) (lists : Option Starts) (cs : List Condition) (ts : List Diagnosis) (rs : List Run) → AreFoundOf o lists cs ts rs → Suit o cs ts
suited o lists cs ts rs h = λ i c t less. diagnosis_of o lists (get_or cs i c) (get_or ts i t) (get_or rs i run.Open) (h.each i c t run.Open less)

pub are_diagnosed : (o : Program) (lists : Option Starts) (cs : List Condition) (ts : List Diagnosis) (rs : List Run) → AreFoundOf o lists cs ts rs → AreDiagnoses o cs ts
are_diagnosed o lists cs ts rs h = diagnosed o cs ts h.diagnoses (suited o lists cs ts rs h)

-- ---- a false condition

false_diagnosis : (o : Program) (c : Condition) (t : Diagnosis) → IsDiagnosis o c t → is_false t ≡ true → (s : List ℤ) × IsFalseAt c s
false_diagnosis o c diagnosis.Proved d e = absurd (true≢false (sym e))
false_diagnosis o c (diagnosis.False block) d e = (block.values, d.is_false)
false_diagnosis o c diagnosis.Open d e = absurd (true≢false (sym e))

false_later : (cs : List Condition) (c : Condition) → HasFalse cs → HasFalse (c ∷ cs)
false_later cs c h = (suc h.0, h.1, h.2, h.3, h.4)

false_among : (o : Program) (cs : List Condition) (ts : List Diagnosis) → AreDiagnoses o cs ts → has_false ts ≡ true → HasFalse cs
false_among o [] [] h is = absurd (true≢false (sym is))
false_among o [] (t ∷ ts) h is = absurd h
false_among o (c ∷ cs) [] h is = absurd h
false_among o (c ∷ cs) (t ∷ ts) h is = from (is_false t) refl is (false_among o cs ts h.1)
  where
    from : (b : Bool) → is_false t ≡ b → (b || has_false ts) ≡ true → (has_false ts ≡ true → HasFalse cs) → HasFalse (c ∷ cs)
    from true e all later = let s = false_diagnosis o c t h.0 e in (0, c, s.0, refl, s.1)
    from false e all later = false_later cs c (later all)

-- where one of the diagnoses is false, the condition is
pub has_false_condition : (o : Program) (cs : List Condition) (ts : List Diagnosis) (rs : List Run) → AreFoundOf o None cs ts rs → has_false ts ≡ true → HasFalse cs
has_false_condition o cs ts rs h is = false_among o cs ts (are_diagnosed o None cs ts rs h) is

-- ---- advice

-- the first n are advised
abbrev pub AreAdvisedTo : List Condition → List Diagnosis → ℕ → List (Vec Suggestion Global) → Type 0
AreAdvisedTo cs ts n advice =
    (length advice ≡ n) × ((i : ℕ) (c : Condition) (t : Diagnosis) (a : Vec Suggestion Global) → i < n → IsAdvice (get_or cs i c) (places_of (get_or ts i t)) (get_or advice i a).items)

pub advised_more : (cs : List Condition) (ts : List Diagnosis) (n : ℕ) (advice : List (Vec Suggestion Global)) (a : Vec Suggestion Global) → AreAdvisedTo cs ts n advice
    → ((c : Condition) (t : Diagnosis) → IsAdvice (get_or cs n c) (places_of (get_or ts n t)) a.items) → AreAdvisedTo cs ts (n + 1) (advice ++ a ∷ [])
advised_more cs ts n advice a h new = (
  length_push advice a ∙ ap (λ k. k + 1) h.0,
  λ i c t b less. ⊎_elim
      (λ (e : i ≡ n). subst (λ k. IsAdvice (get_or cs k c) (places_of (get_or ts k t)) (get_or (advice ++ a ∷ []) k b).items) (sym e)
      (subst (λ x. IsAdvice (get_or cs n c) (places_of (get_or ts n t)) x.items) (sym (get_or_push advice a b n h.0)) (new c t)))
      (λ (e : i ≢ n).
      let below : i < n = omega (arith, less, e) in
      subst (λ x. IsAdvice (get_or cs i c) (places_of (get_or ts i t)) x.items) (sym (get_or_append_left advice (a ∷ []) b i (omega (arith, h.0, below)))) (h.1 i c t b below))
      (cases_eq i n),
)

pub advised_all : (cs : List Condition) (ts : List Diagnosis) (n : ℕ) (advice : List (Vec Suggestion Global)) → n ≤ length cs → AreAdvisedTo cs ts n advice → AreAdvised cs ts advice
advised_all cs ts n advice le h = record {
  few = omega (arith, le, h.0);
  each = λ i c t a less. h.1 i c t a (omega (arith, less, h.0));
}
