-- Which jobs start threads.
use Rattle.std.specs.Prelude.{◌<◌, ℕ, List, Option, None, Some}
use Rattle.std.specs.Borrow.{Bor}
use Rattle.og_command_run.specs.Starts.{HasStart, HasProvedStart}
use Rattle.og_typed.specs.Source.{IsSource}
use Rattle.og_typed.specs.Syntax.{Program}
use Rattle.og_words.specs.Jobs.{word_bytes}
use Rattle.og_words.specs.declared.job.Job.{Job}
use Rattle.og_words.specs.declared.job.Job.TheVariants as jobs
use Rattle.og_words.specs.declared.job.Run.{Run}
use Rattle.og_program.specs.World.{World, OfSource, OfBoth}

-- a run without certificates and without a schedule: its values are a start
abbrev pub StartsFree : World → Run → Type 0
StartsFree world run =
    OfSource world run.source.now (λ s. (o : Program) × IsSource s.bytes o
    × HasStart run.erased o (word_bytes run.values.items))

-- a run by certificates: its values are a start of what they prove safe
abbrev pub StartsProved : World → Run → List ℕ → Type 0
StartsProved world run certs =
    OfBoth world run.source.now certs
    (λ s c. (o : Program) × IsSource s.bytes o
    × HasProvedStart o c.bytes (word_bytes run.values.items))

-- by its certificates, and else by its schedule; along a schedule there are none
abbrev pub StartsBy : Option (Bor (List ℕ)) → Option (Bor (List ℕ)) → World → Run → Type 0
StartsBy None None world run = StartsFree world run
StartsBy None (Some schedule) world run = ⊥
StartsBy (Some certs) schedule world run = StartsProved world run certs.now

-- a job does: a search, a check or an exploration by two workers or more, or such a run
abbrev pub StartsThreads : World → Job → Type 0
StartsThreads world (jobs.Prove prove) = 1 < prove.workers
StartsThreads world (jobs.Infer infer) = 1 < infer.workers
StartsThreads world (jobs.Check check) = 1 < check.workers
StartsThreads world (jobs.Show show) = 1 < show.workers
StartsThreads world (jobs.Find find) = 1 < find.workers
StartsThreads world (jobs.Explore explore) = 1 < explore.workers
StartsThreads world (jobs.Run run) = StartsBy run.certs run.schedule world run
StartsThreads world _ = ⊥
