-- From the outcome of a job, as it is written, to how the program ends.
use Rattle.std.proofs.Common.{◌≡◌, inl, inr, Result, Ok, Err, IfOk, IfErr, subst, sym}
use Rattle.og_words.specs.declared.job.Job.{Job}
use Rattle.og_words.specs.declared.job.Usage.{Usage}
use Rattle.og_program.specs.World.{World, Trace}
use Rattle.og_program.specs.Opened.{opened}
use Rattle.og_program.specs.Threads.{StartsThreads}
use Rattle.og_program.specs.Failing.{IsFault, IsUnread}
use Rattle.og_program.specs.Written.{Fails, Writes}
use Rattle.og_program.specs.Commands.{IsOutcome}
use Rattle.og_program.specs.Served.{FailsToRead, EndsJob}
use Rattle.og_program.specs.declared.fault.Fault.{Fault}
use Rattle.og_program.specs.declared.fault.Fault.TheVariants as faults
use Rattle.og_program.specs.declared.outcome.Outcome.{Outcome}

-- what holds of the job that was read holds where one was read
pub of_job : (P : Job → Type 0) (asked : Result Job Usage) (job : Job) → asked ≡ Ok job → P job → IfOk asked P
of_job P asked job is h = subst (λ (r : Result Job Usage). IfOk r P) (sym is) h

pub of_outcome : (world : World) (job : Job) (t : Trace) (r : Result Outcome Fault)
    → IfOk r (IsOutcome world job) → IfErr r (IsFault (opened job) (StartsThreads world job))
    → IfOk r (λ o. Writes o t) → IfErr r (λ fault. Fails fault t) → EndsJob world job t
of_outcome world job t (Ok outcome) is fault writes fails = inl (outcome, is, writes)
of_outcome world job t (Err why) is fault writes fails = inr (why, fault, fails)

-- that a file was not read is reported
pub lacking : (job : Job) (S : Type 0) (t : Trace) (r : Result Outcome Fault) → IsUnread r
    → IfErr r (IsFault (opened job) S) → IfErr r (λ fault. Fails fault t) → FailsToRead job t
lacking job S t (Ok o) unread is fails = absurd unread
lacking job S t (Err (faults.NotRead name why)) unread is fails = (name, why, is, fails)
lacking job S t (Err (faults.NotWritten why)) unread is fails = absurd is
lacking job S t (Err faults.Memory) unread is fails = absurd (cc)
lacking job S t (Err faults.Spawn) unread is fails = absurd (cc)
