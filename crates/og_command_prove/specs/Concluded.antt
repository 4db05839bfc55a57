-- What a verdict says of the runs of an outline.
use Rattle.std.specs.Prelude.{◌≡◌, ℕ, Option, Some, None, ⊤}
use Rattle.og_typed.specs.Syntax.{Program}
use Rattle.og_typed.specs.Erase.{erased}
use Rattle.og_explore.specs.From.{IsFrom}
use Rattle.og_explore.specs.Safety.{IsSafeFrom}
use Rattle.og_report_findings.specs.declared.verdict.Conclusion.{Conclusion}
use Rattle.og_report_findings.specs.declared.verdict.Conclusion.TheVariants as conclusions
use Rattle.og_theorem.specs.NeverStuck.{IsNeverStuck}
use Rattle.og_theorem.specs.Sound.{IsSound, IsSoundErased}
use Rattle.og_violation.specs.Violations.{IsViolation}
use Rattle.og_violation.specs.declared.violation.Violation.{Violation}
use Rattle.og_violation.specs.declared.violation.Wrong.{Wrong}
use Rattle.og_violation.specs.declared.violation.Wrong.TheVariants as wrongs
use Rattle.og_command_prove.specs.Found.{Starts}

-- at the end of a run from a start within the lists something of the kind is wrong
abbrev pub HasRun : Program → Option Starts → (Wrong → Type 0) → Type 0
HasRun o None P = ⊥
HasRun o (Some lists) P = (v : Violation) × IsViolation o v × IsFrom lists v.values × P v.wrong

-- nothing is wrong at any moment of any run from a start within the lists
abbrev pub HasSafeRuns : Program → Option Starts → Type 0
HasSafeRuns o None = ⊥
HasSafeRuns o (Some lists) = IsSafeFrom o lists

-- every run from every start is as promised, with the auxiliaries and without them
abbrev pub IsSafe : Program → Type 0
IsSafe o = IsSound o × IsSoundErased o

abbrev pub IsConcluded : Program → Option Starts → Conclusion → Type 0
IsConcluded o lists conclusions.Safe = IsSafe o
IsConcluded o lists conclusions.NeverStuck = IsSafe o × IsNeverStuck o × IsNeverStuck (erased o)
IsConcluded o lists conclusions.FalsePostcondition = HasRun o lists (λ w. w ≡ wrongs.Post)
IsConcluded o lists conclusions.Overflow = HasRun o lists (λ w. (p : ℕ) × (w ≡ wrongs.Overflow p))
IsConcluded o lists conclusions.Stuck = HasRun o lists (λ w. w ≡ wrongs.Stuck)
IsConcluded o lists conclusions.FalseAssertion = HasRun o lists (λ w. (p : ℕ) × (w ≡ wrongs.Assertion p))
IsConcluded o lists conclusions.TooWeak = HasSafeRuns o lists
IsConcluded o lists conclusions.Undecided = ⊤
IsConcluded o lists conclusions.NotShown = ⊤
