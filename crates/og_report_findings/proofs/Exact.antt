-- A conclusion is what it says, and no other one is.
use Rattle.std.proofs.Common.{◌≡◌, ◌∙◌, List, Bool, true, false, cond, Option, Some, None, refl, ap}
use Rattle.og_report_prove.specs.Report.{is_safe, is_unblocked}
use Rattle.og_report_prove.specs.declared.diagnosis.Diagnosis.{Diagnosis}
use Rattle.og_report_runs.specs.declared.lines.Explored.{Explored}
use Rattle.og_violation.specs.declared.violation.Wrong.{Wrong}
use Rattle.og_violation.specs.declared.violation.Wrong.TheVariants as wrongs
use Rattle.og_report_findings.specs.Exact.{EndsIn, IsClosed, IsUnknown, IsRefuted, IsExact}
use Rattle.og_report_findings.specs.Verdicts.{has_false, of_wrong, by_wrong, by_runs, if_unsafe, concluded}
use Rattle.og_report_findings.specs.declared.verdict.Conclusion.{Conclusion}
use Rattle.og_report_findings.specs.declared.verdict.Conclusion.TheVariants as conclusions

-- ---- it is what it says

of_run : (ts : List Diagnosis) (e : Explored) (w : Wrong) → IsRefuted ts → e.wrong ≡ Some w → IsExact ts (Some e) (of_wrong w)
of_run ts e (wrongs.Assertion p) h is = (h, (p, is))
of_run ts e (wrongs.Overflow p) h is = (h, (p, is))
of_run ts e wrongs.Post h is = (h, is)
of_run ts e wrongs.Stuck h is = (h, is)

of_reach : (ts : List Diagnosis) (e : Explored) (w : Option Wrong) (complete : Bool) → IsRefuted ts → e.wrong ≡ w → e.complete ≡ complete → IsExact ts (Some e) (by_wrong w complete)
of_reach ts e (Some w) complete h is all = of_run ts e w h is
of_reach ts e None true h is all = (h, (all, is))
of_reach ts e None false h is all = (h, (all, is))

of_runs : (ts : List Diagnosis) (e : Option Explored) → IsRefuted ts → IsExact ts e (by_runs e)
of_runs ts None h = (h, tt)
of_runs ts (Some e) h = of_reach ts e e.wrong e.complete h refl refl

pub exact : (ts : List Diagnosis) (e : Option Explored) → IsExact ts e (concluded ts e)
exact ts e = go (is_safe ts) refl (is_unblocked ts) refl (has_false ts) refl
  where
    go : (a : Bool) → is_safe ts ≡ a → (b : Bool) → is_unblocked ts ≡ b → (f : Bool) → has_false ts ≡ f
        → IsExact ts e (cond a (cond b conclusions.NeverStuck conclusions.Safe) (cond f (by_runs e) conclusions.Undecided))
    go true p true q f r = (p, q)
    go true p false q f r = (p, q)
    go false p b q true r = of_runs ts e (p, r)
    go false p b q false r = (p, r)

-- ---- no other one is

ends_in : (e : Option Explored) (w : Wrong) → EndsIn e w → by_runs e ≡ of_wrong w
ends_in None w h = absurd h
ends_in (Some e) w h = ap (λ o. by_wrong o e.complete) h

closed : (e : Option Explored) → IsClosed e → by_runs e ≡ conclusions.TooWeak
closed None h = absurd h
closed (Some e) h = ap (λ o. by_wrong o e.complete) h.1 ∙ ap (by_wrong None) h.0

unknown : (e : Option Explored) → IsUnknown e → by_runs e ≡ conclusions.NotShown
unknown None h = refl
unknown (Some e) h = ap (λ o. by_wrong o e.complete) h.1 ∙ ap (by_wrong None) h.0

safe_is : (ts : List Diagnosis) (e : Option Explored) (b : Bool) → is_safe ts ≡ true → is_unblocked ts ≡ b → concluded ts e ≡ cond b conclusions.NeverStuck conclusions.Safe
safe_is ts e b p q =
    ap (λ a. cond a (cond (is_unblocked ts) conclusions.NeverStuck conclusions.Safe) (if_unsafe ts e)) p ∙ ap (λ a. cond a conclusions.NeverStuck conclusions.Safe) q

unsafe_is : (ts : List Diagnosis) (e : Option Explored) (f : Bool) (c : Conclusion) → is_safe ts ≡ false → has_false ts ≡ f → cond f (by_runs e) conclusions.Undecided ≡ c → concluded ts e ≡ c
unsafe_is ts e f c p r is =
    ap (λ a. cond a (cond (is_unblocked ts) conclusions.NeverStuck conclusions.Safe) (if_unsafe ts e)) p ∙ ap (λ a. cond a (by_runs e) conclusions.Undecided) r ∙ is

pub only : (ts : List Diagnosis) (e : Option Explored) (c : Conclusion) → IsExact ts e c → concluded ts e ≡ c
only ts e conclusions.Safe h = safe_is ts e false h.0 h.1
only ts e conclusions.NeverStuck h = safe_is ts e true h.0 h.1
only ts e conclusions.FalsePostcondition h = unsafe_is ts e true _ h.0.0 h.0.1 (ends_in e wrongs.Post h.1)
only ts e conclusions.Overflow h = unsafe_is ts e true _ h.0.0 h.0.1 (ends_in e (wrongs.Overflow h.1.0) h.1.1)
only ts e conclusions.Stuck h = unsafe_is ts e true _ h.0.0 h.0.1 (ends_in e wrongs.Stuck h.1)
only ts e conclusions.FalseAssertion h = unsafe_is ts e true _ h.0.0 h.0.1 (ends_in e (wrongs.Assertion h.1.0) h.1.1)
only ts e conclusions.TooWeak h = unsafe_is ts e true _ h.0.0 h.0.1 (closed e h.1)
only ts e conclusions.Undecided h = unsafe_is ts e false _ h.0 h.1 refl
only ts e conclusions.NotShown h = unsafe_is ts e true _ h.0.0 h.0.1 (unknown e h.1)
