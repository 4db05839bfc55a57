-- How the program ends, by the words, the files and the input that it is given.
use Rattle.std.specs.Prelude.{◌≡◌, ◌⊎◌, ℕ, true, List, Option, Result, Ok, Err, IfOk, IfErr, string_bytes}
use Rattle.std.specs.Borrow.{Bor}
use Rattle.og_words.specs.Jobs.{IsAsked}
use Rattle.og_words.specs.declared.job.Job.{Job}
use Rattle.og_words.specs.declared.job.Usage.{Usage}
use Rattle.og_words.specs.declared.job.Usage.TheVariants as usages
use Rattle.og_program.specs.World.{World, Trace}
use Rattle.og_program.specs.Sound.{IsProven}
use Rattle.og_program.specs.Unblocked.{IsNeverStuck}
use Rattle.og_program.specs.Opened.{opened, Opens, LeavesInput, lacks}
use Rattle.og_program.specs.Threads.{StartsThreads}
use Rattle.og_program.specs.Failing.{IsFault}
use Rattle.og_program.specs.Written.{Gets, GetsNothing, Complains, IsSilent, Fails, FailsToWrite, Writes}
use Rattle.og_program.specs.Commands.{IsOutcome}
use Rattle.og_program.specs.declared.fault.Fault.{Fault}
use Rattle.og_program.specs.declared.fault.Fault.TheVariants as faults
use Rattle.og_program.specs.declared.fault.Why.{Why}
use Rattle.og_program.specs.declared.outcome.Outcome.{Outcome}

-- its outcome is written, or why it cannot be done
abbrev pub EndsJob : World → Job → Trace → Type 0
EndsJob world job t =
    ((outcome : Outcome) × IsOutcome world job outcome × Writes outcome t)
    ⊎ ((fault : Fault) × IsFault (opened job) (StartsThreads world job) fault × Fails fault t)

-- a file that the job opens was not read
abbrev pub FailsToRead : Job → Trace → Type 0
FailsToRead job t =
    (name : Bor (List ℕ)) × (why : Why) × Opens (opened job) name.now
    × Fails (faults.NotRead name why) t

-- the words ask for help or are wrong, or memory ran out
abbrev pub EndsUsage : Usage → Trace → Type 0
EndsUsage (usages.Asked text) t =
    (Gets t.out (string_bytes text) × (t.ended.status ≡ 0) × IsSilent t.err t.ended)
    ⊎ FailsToWrite (string_bytes text) t
EndsUsage (usages.Wrong text) t = GetsNothing t.out × Complains (string_bytes text) 3 t.err t.ended
EndsUsage usages.Memory t = Fails faults.Memory t

abbrev pub Ends : World → Result Job Usage → Trace → Type 0
Ends world (Ok job) t = EndsJob world job t
Ends world (Err usage) t = EndsUsage usage t

-- what the words ask for, how that ends, and what standard input holds then
pub record EndsWords (words : List (List ℕ)) (world : World) (t : Trace) (input : Option (List ℕ))
    : Type 0 where
  pub asked : Result Job Usage
  pub is : IsAsked words asked
  pub ended : Ends world asked t
  -- status 0 says that the source is proven
  pub sound : IfOk asked (λ job. t.ended.status ≡ 0 → IsProven world job)
  -- and, where what was printed says that it is unblocked, that it never gets stuck
  pub unblocked : IfOk asked (λ job. t.ended.status ≡ 0 → IsNeverStuck world t.out job)
  pub lacking : IfOk asked (λ job. lacks world.missing (opened job) ≡ true → FailsToRead job t)
  pub kept : IfOk asked (λ job. LeavesInput (opened job) → input ≡ world.input)
  pub unread : IfErr asked (λ _. input ≡ world.input)
