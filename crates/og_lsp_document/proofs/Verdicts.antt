-- The findings on conditions by their verdicts, one after another.
use Rattle.std.proofs.Common.{◌≡◌, ◌<◌, ℕ, zero, suc, List, [], ◌∷◌, ◌++◌, length, Option, Some, None, Bor, refl, sym, subst, arith}
use Rattle.std.specs.Prelude.{slice_get, option_map, IfSome, IsSomeAnd}
use Rattle.og_typed.specs.Syntax.{Program}
use Rattle.og_cond.specs.Condition.{Condition}
use Rattle.og_find.specs.Found.{IsVerdict}
use Rattle.og_find.specs.declared.verdict.Verdict.{Verdict}
use Rattle.og_find_all.specs.Findings.{AreVerdicts, verdict_of}
use Rattle.og_find_all.specs.declared.findings.Findings.{Findings}
use Rattle.og_report_prove.specs.Diagnosis.{IsDiagnosis, AreDiagnoses}
use Rattle.og_report_prove.specs.declared.diagnosis.Diagnosis.{Diagnosis}

pub verdict_at : (cs : List Condition) (c : Condition) (f : Findings) (i : ℕ) (r : Option (Bor Verdict)) → AreVerdicts cs f → slice_get cs i ≡ Some c
    → option_map (λ v. v.now) r ≡ verdict_of f i → IfSome r (λ v. IsVerdict c v.now)
verdict_at cs c f i None are at is = tt
verdict_at cs c f i (Some v) are at is = subst (λ o. IsSomeAnd o (IsVerdict c)) (sym is) (are.1 i c at)

pub one_diagnosed : (o : Program) (cs : List Condition) (ts : List Diagnosis) (c : Condition) (t : Diagnosis) → AreDiagnoses o cs ts → IsDiagnosis o c t → AreDiagnoses o (cs ++ c ∷ []) (ts ++ t ∷ [])
one_diagnosed o [] [] c t all is = (is, tt)
one_diagnosed o [] (u ∷ ts) c t all is = absurd all
one_diagnosed o (b ∷ cs) [] c t all is = absurd all
one_diagnosed o (b ∷ cs) (u ∷ ts) c t all is = (all.0, one_diagnosed o cs ts c t all.1 is)

pub length_diagnosed : (o : Program) (cs : List Condition) (ts : List Diagnosis) → AreDiagnoses o cs ts → length ts ≡ length cs
length_diagnosed o [] [] all = refl
length_diagnosed o [] (u ∷ ts) all = absurd all
length_diagnosed o (b ∷ cs) [] all = absurd all
length_diagnosed o (b ∷ cs) (u ∷ ts) all = let rest = length_diagnosed o cs ts all.1 in omega (arith, rest)

pub some_at : {X : Type 0} (xs : List X) (i : ℕ) → i < length xs → (x : X) × (slice_get xs i ≡ Some x)
some_at [] i less = absurd (omega (arith, less))
some_at (x ∷ xs) zero less = (x, refl)
some_at (x ∷ xs) (suc i) less = some_at xs i (omega (arith, less))
