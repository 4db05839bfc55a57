-- Conditions reported as proved are true.
use Rattle.std.proofs.Common.{◌≡◌, ◌-◌, List, [], ◌∷◌, ◌++◌, length, take, slice_get, Some, true, refl, sym, ap, subst, ◌∙◌, length-append, append_assoc, arith, true≢false}
use Rattle.std.specs.List.{list_all}
use Rattle.std.proofs.Math.Seq.{take-append_seam}
use Rattle.std.proofs.lemmas.Bool.{and_parts}
use Rattle.og_typed.specs.Syntax.{Program}
use Rattle.og_cond.specs.Condition.{Condition}
use Rattle.og_cond.specs.Valid.{IsValid, AreValid}
use Rattle.og_report_prove.specs.Report.{is_proved, is_safe, is_there_and_proved, is_unblocked}
use Rattle.og_report_prove.specs.Diagnosis.{IsDiagnosis, AreDiagnoses}
use Rattle.og_report_prove.specs.declared.diagnosis.Diagnosis.{Diagnosis}
use Rattle.og_report_prove.specs.declared.diagnosis.Diagnosis.TheVariants as diagnosis

-- the report of conditions and of one more
with_last : (o : Program) (cs : List Condition) (last : Condition) (ts : List Diagnosis) → AreDiagnoses o (cs ++ last ∷ []) ts
    → (front : List Diagnosis) × (t : Diagnosis) × (ts ≡ front ++ t ∷ []) × AreDiagnoses o cs front × IsDiagnosis o last t
with_last o [] last [] h = absurd h
with_last o [] last (t ∷ []) h = ([], t, refl, tt, h.0)
with_last o [] last (t ∷ u ∷ ts) h = absurd h.1
with_last o (c ∷ cs) last [] h = absurd h
with_last o (c ∷ cs) last (t ∷ ts) h =
    let rest = with_last o cs last ts h.1 in
    (t ∷ rest.0, rest.1, ap (λ xs. t ∷ xs) rest.2, (h.0, rest.3), rest.4)

length_more : (ts : List Diagnosis) (t : Diagnosis) → length (ts ++ t ∷ []) - 1 ≡ length ts
length_more ts t = let l = length-append ts (t ∷ []) in omega (arith, l)

but_the_last : (ts : List Diagnosis) (t : Diagnosis) → take (length (ts ++ t ∷ []) - 1) (ts ++ t ∷ []) ≡ ts
but_the_last ts t = ap (λ k. take k (ts ++ t ∷ [])) (length_more ts t) ∙ take-append_seam ts (t ∷ [])

get_more : (ts : List Diagnosis) (t : Diagnosis) → slice_get (ts ++ t ∷ []) (length ts) ≡ Some t
get_more [] t = refl
get_more (x ∷ ts) t = get_more ts t

the_last : (ts : List Diagnosis) (t : Diagnosis) → slice_get (ts ++ t ∷ []) (length (ts ++ t ∷ []) - 1) ≡ Some t
the_last ts t = ap (slice_get (ts ++ t ∷ [])) (length_more ts t) ∙ get_more ts t

proved_is_valid : (o : Program) (c : Condition) (t : Diagnosis) → IsDiagnosis o c t → is_proved t ≡ true → IsValid c
proved_is_valid o c diagnosis.Proved h is = h
proved_is_valid o c (diagnosis.False block) h is = absurd (true≢false (sym is))
proved_is_valid o c diagnosis.Open h is = absurd (true≢false (sym is))

all_valid : (o : Program) (cs : List Condition) (ts : List Diagnosis) → AreDiagnoses o cs ts → list_all is_proved ts ≡ true → AreValid cs
all_valid o [] ts h is = tt
all_valid o (c ∷ cs) [] h is = absurd h
all_valid o (c ∷ cs) (t ∷ ts) h is =
    let parts = and_parts (is_proved t) (list_all is_proved ts) is in
    (proved_is_valid o c t h.0 parts.0, all_valid o cs ts h.1 parts.1)

pub safe_is_valid : (o : Program) (cs : List Condition) (last : Condition) (ts : List Diagnosis) → AreDiagnoses o (cs ++ last ∷ []) ts → is_safe ts ≡ true → AreValid cs
safe_is_valid o cs last ts h is =
    let parts = with_last o cs last ts h in
    all_valid o cs parts.0 parts.3 (ap (list_all is_proved) (sym (but_the_last parts.0 parts.1)) ∙ ap is_safe (sym parts.2) ∙ is)

pub unblocked_is_valid : (o : Program) (cs : List Condition) (last : Condition) (ts : List Diagnosis) → AreDiagnoses o (cs ++ last ∷ []) ts → is_unblocked ts ≡ true → IsValid last
unblocked_is_valid o cs last ts h is =
    let parts = with_last o cs last ts h in
    proved_is_valid o last parts.1 parts.4 (ap is_there_and_proved (sym (the_last parts.0 parts.1)) ∙ ap is_unblocked (sym parts.2) ∙ is)

-- ---- one after another

-- with the report of these besides, all is reported
abbrev pub MakesAll : Program → List Condition → List Condition → List Diagnosis → Type 0
MakesAll o cs rest ts = (more : List Diagnosis) → AreDiagnoses o rest more → AreDiagnoses o cs (ts ++ more)

pub all_begin : (o : Program) (cs : List Condition) (ts : List Diagnosis) → ts ≡ [] → MakesAll o cs cs ts
all_begin o cs ts none = λ more h. subst (λ l. AreDiagnoses o cs (l ++ more)) (sym none) h

pub all_go_on : (o : Program) (cs rest : List Condition) (c : Condition) (ts : List Diagnosis) (t : Diagnosis) → IsDiagnosis o c t → MakesAll o cs (c ∷ rest) ts → MakesAll o cs rest (ts ++ t ∷ [])
all_go_on o cs rest c ts t is h = λ more later. subst (AreDiagnoses o cs) (sym (append_assoc ts (t ∷ []) more)) (h (t ∷ more) (is, later))

append_none : (ts : List Diagnosis) → ts ++ [] ≡ ts
append_none [] = refl
append_none (t ∷ ts) = ap (λ xs. t ∷ xs) (append_none ts)

pub all_end : (o : Program) (cs rest : List Condition) (ts : List Diagnosis) → rest ≡ [] → MakesAll o cs rest ts → AreDiagnoses o cs ts
all_end o cs rest ts none h = subst (AreDiagnoses o cs) (append_none ts) (h [] (subst (λ r. AreDiagnoses o r []) (sym none) tt))
