-- What status 0 says: that the source which a command proves or checks is proven.
use Rattle.std.specs.Prelude.{List, ℕ, IfSome, ⊤}
use Rattle.og_command_check.specs.Inputs.{source_of, joined_of, Reads}
use Rattle.og_command_check.specs.Proven.{HasProvenSource}
use Rattle.og_judge.specs.Proven.{IsProvenSource}
use Rattle.og_template_outline.specs.Expanded.{HoldsOf}
use Rattle.og_words.specs.declared.job.Job.{Job}
use Rattle.og_words.specs.declared.job.Job.TheVariants as jobs
use Rattle.og_program.specs.World.{World, bytes_in}

-- the source of this name is proven
abbrev pub IsProvenFile : World → List ℕ → Type 0
IsProvenFile world name = Reads source_of (bytes_in world name) IsProvenSource

-- the same, or, where it is a template, of the outline that it means
abbrev pub IsProvenText : World → List ℕ → Type 0
IsProvenText world name = Reads source_of (bytes_in world name) (HoldsOf IsProvenSource)

-- by command: a run says it where certificates are to prove the source, and the others say nothing
abbrev pub IsProven : World → Job → Type 0
IsProven world jobs.Joined = Reads joined_of world.input HasProvenSource
IsProven world (jobs.Prove prove) = IsProvenText world prove.source.now
IsProven world (jobs.Infer infer) = IsProvenText world infer.source.now
IsProven world (jobs.Check check) = IsProvenFile world check.source.now
IsProven world (jobs.Show show) = IsProvenText world show.source.now
IsProven world (jobs.Run run) = IfSome run.certs (λ _. IsProvenFile world run.source.now)
IsProven world _ = ⊤
