-- A text ends in one verdict alone.
use Rattle.std.proofs.Common.{◌≡◌, ◌∙◌, ℕ, List, [], ◌∷◌, ◌++◌, Bool, true, false, true≢false, cond, Option, refl, sym, ap, subst, reverse}
use Rattle.std.specs.Prelude.{◌==◌}
use Rattle.std.proofs.lemmas.Bool.Decides.{Decides-eqb}
use Rattle.std.proofs.lemmas.List.{reverse-append}
use Rattle.og_report_text.specs.Yes.{EndsWith}
use Rattle.og_report_prove.specs.Report.{is_unblocked}
use Rattle.og_report_prove.specs.declared.diagnosis.Diagnosis.{Diagnosis}
use Rattle.og_report_runs.specs.declared.lines.Explored.{Explored}
use Rattle.og_report_findings.specs.Exact.{IsExact, ending, IsExactReport}
use Rattle.og_report_findings.specs.Says.{SaysNeverStuck}
use Rattle.og_report_findings.specs.Verdicts.{concluded}
use Rattle.og_report_findings.specs.declared.verdict.Conclusion.{Conclusion}
use Rattle.og_report_findings.specs.declared.verdict.Conclusion.TheVariants as conclusions
use Rattle.og_report_findings.proofs.Exact.{exact, only}

-- they are the same as far as both go
abbrev agree : List ℕ → List ℕ → Bool
agree [] ys = true
agree (x ∷ xs) [] = true
agree (x ∷ xs) (y ∷ ys) = cond (x == y) (agree xs ys) false

fronts_agree : (xs us ys vs : List ℕ) → xs ++ us ≡ ys ++ vs → agree xs ys ≡ true
fronts_agree [] us ys vs is = refl
fronts_agree (x ∷ xs) us [] vs is = refl
fronts_agree (x ∷ xs) us (y ∷ ys) vs is =
    let first : x ≡ y = cc in
    let others : xs ++ us ≡ ys ++ vs = cc in
    ap (λ b. cond b (agree xs ys) false) ((Decides-eqb x y).1 first) ∙ fronts_agree xs us ys vs others

ends_agree : (e f t : List ℕ) → EndsWith e t → EndsWith f t → agree (reverse e) (reverse f) ≡ true
ends_agree e f t p q =
    fronts_agree (reverse e) (reverse p.0) (reverse f) (reverse q.0)
    (sym (reverse-append p.0 e) ∙ ap reverse (sym p.1 ∙ q.1) ∙ reverse-append q.0 f)

same_ending : (json : Bool) (c d : Conclusion) → agree (reverse (ending json c)) (reverse (ending json d)) ≡ true → c ≡ d
same_ending json conclusions.Safe conclusions.Safe h = refl
same_ending json conclusions.NeverStuck conclusions.NeverStuck h = refl
same_ending json conclusions.FalsePostcondition conclusions.FalsePostcondition h = refl
same_ending json conclusions.Overflow conclusions.Overflow h = refl
same_ending json conclusions.Stuck conclusions.Stuck h = refl
same_ending json conclusions.FalseAssertion conclusions.FalseAssertion h = refl
same_ending json conclusions.TooWeak conclusions.TooWeak h = refl
same_ending json conclusions.Undecided conclusions.Undecided h = refl
same_ending json conclusions.NotShown conclusions.NotShown h = refl
same_ending true _ _ h = absurd (true≢false (sym h))
same_ending false _ _ h = absurd (true≢false (sym h))

-- a text that ends in what the findings come to
pub exact_text : (json : Bool) (ts : List Diagnosis) (e : Option Explored) (t : List ℕ) → EndsWith (ending json (concluded ts e)) t → IsExactReport json ts e t
exact_text json ts e t h c = (
  λ p. subst (IsExact ts e) (same_ending json (concluded ts e) c (ends_agree (ending json (concluded ts e)) (ending json c) t h p)) (exact ts e),
  λ x. subst (λ (d : Conclusion). EndsWith (ending json d) t) (only ts e c x) h,
)

-- where it says that no run gets stuck, the last condition is proved
pub never_stuck : (json : Bool) (ts : List Diagnosis) (e : Option Explored) (t : List ℕ) → IsExactReport json ts e t → SaysNeverStuck json t → is_unblocked ts ≡ true
never_stuck true ts e t h says = ((h conclusions.NeverStuck).0 says).1
never_stuck false ts e t h says = ((h conclusions.NeverStuck).0 says).1
