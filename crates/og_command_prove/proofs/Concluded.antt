-- What the verdict says of the runs.
use Rattle.std.proofs.Common.{◌≡◌, List, Bool, true, false, cond, Option, Some, None, refl, ap, subst}
use Rattle.og_typed.specs.Syntax.{Program}
use Rattle.og_typed.specs.Erase.{erased}
use Rattle.og_cond.specs.Condition.{Condition}
use Rattle.og_report_prove.specs.Report.{is_safe, is_unblocked}
use Rattle.og_report_prove.specs.declared.diagnosis.Diagnosis.{Diagnosis}
use Rattle.og_report_runs.specs.declared.lines.Explored.{Explored}
use Rattle.og_report_findings.specs.Verdicts.{has_false, of_wrong, by_wrong, by_runs, concluded}
use Rattle.og_report_findings.specs.declared.verdict.Conclusion.TheVariants as conclusions
use Rattle.og_theorem.specs.NeverStuck.{IsNeverStuck}
use Rattle.og_violation.specs.declared.violation.Wrong.{Wrong}
use Rattle.og_violation.specs.declared.violation.Wrong.TheVariants as wrongs
use Rattle.og_command_prove.specs.Answer.{status_of}
use Rattle.og_command_prove.specs.Concluded.{IsSafe, IsConcluded}
use Rattle.og_command_prove.specs.Found.{Starts, IsExplored, IsReach, IsWrongIn}

pub zero_where : (ts : List Diagnosis) → is_safe ts ≡ true → status_of ts ≡ 0
zero_where ts safe = ap (λ (b : Bool). cond b 0 1) safe

-- by what is wrong at the end of a run
of_run : (o : Program) (lists : Starts) (w : Wrong) → IsWrongIn o lists (Some w) → IsConcluded o (Some lists) (of_wrong w)
of_run o lists (wrongs.Assertion p) h = (h.0, h.1, h.2, (p, h.3))
of_run o lists (wrongs.Overflow p) h = (h.0, h.1, h.2, (p, h.3))
of_run o lists wrongs.Post h = h
of_run o lists wrongs.Stuck h = h

by_reach : (o : Program) (lists : Starts) (e : Explored) → IsReach o lists e → (w : Option Wrong) → e.wrong ≡ w → (complete : Bool) → e.complete ≡ complete → IsConcluded o (Some lists) (by_wrong w complete)
by_reach o lists e reach (Some w) is complete all = of_run o lists w (subst (IsWrongIn o lists) is reach.wrong)
by_reach o lists e reach None is true all = reach.safe all is
by_reach o lists e reach None is false all = tt

by_explored : (o : Program) (cs : List Condition) (lists : Option Starts) (e : Option Explored) → IsExplored o cs lists e → IsConcluded o lists (by_runs e)
by_explored o cs lists None h = tt
by_explored o cs None (Some e) h = absurd h
by_explored o cs (Some lists) (Some e) h = by_reach o lists e h.1 e.wrong refl e.complete refl

pub is_concluded : (o : Program) (cs : List Condition) (lists : Option Starts) (ts : List Diagnosis) (e : Option Explored) → IsExplored o cs lists e
    → (is_safe ts ≡ true → IsSafe o) → (is_safe ts ≡ true → is_unblocked ts ≡ true → IsNeverStuck o × IsNeverStuck (erased o)) → IsConcluded o lists (concluded ts e)
is_concluded o cs lists ts e explored safe never = go (is_safe ts) refl (is_unblocked ts) refl (has_false ts)
  where
    go : (a : Bool) → is_safe ts ≡ a → (b : Bool) → is_unblocked ts ≡ b → (f : Bool)
        → IsConcluded o lists (cond a (cond b conclusions.NeverStuck conclusions.Safe) (cond f (by_runs e) conclusions.Undecided))
    go true p true q f = (safe p, (never p q).0, (never p q).1)
    go true p false q f = safe p
    go false p b q true = by_explored o cs lists e explored
    go false p b q false = tt
