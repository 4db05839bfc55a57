-- Which files a job opens.
use Rattle.std.specs.Prelude.{◌≡◌, ◌⊎◌, ◌&&◌, ◌||◌, not, ℕ, Bool, false, List, Option, None, Some, if◌then◌else◌, codes}
use Rattle.std.specs.Borrow.{Bor}
use Rattle.og_words.specs.declared.job.Job.{Job}
use Rattle.og_words.specs.declared.job.Job.TheVariants as jobs
use Rattle.og_program.specs.World.{is_input}

-- one file, or that of a source and then that of certificates; `-` is standard input
pub data FileNames : Type 0 where
  One : List ℕ → FileNames
  Both : List ℕ → List ℕ → FileNames

-- a run opens certificates where they are given
abbrev pub opened_by_run : List ℕ → Option (Bor (List ℕ)) → FileNames
opened_by_run source None = One source
opened_by_run source (Some certs) = Both source certs.now

abbrev pub opened : Job → FileNames
opened jobs.Joined = One (codes "-")
opened (jobs.Prove prove) = One prove.source.now
opened (jobs.Infer infer) = One infer.source.now
opened (jobs.Check check) = Both check.source.now check.certs.now
opened (jobs.Notes notes) = One notes.source.now
opened (jobs.Show show) = One show.source.now
opened (jobs.Conditions conditions) = One conditions.source.now
opened (jobs.Find find) = One find.source.now
opened (jobs.Erase erase) = One erase.source.now
opened (jobs.Run run) = opened_by_run run.source.now run.certs
opened (jobs.Explore explore) = One explore.source.now
opened (jobs.Promela promela) = One promela.source.now
opened (jobs.Expand expand) = One expand.template.now
opened (jobs.Format format) = One format.source.now
opened (jobs.Migrate migrate) = One migrate.certs.now

-- a file of this name is among them
abbrev pub Opens : FileNames → List ℕ → Type 0
Opens (One file) name = name ≡ file
Opens (Both source certs) name = (name ≡ source) ⊎ (name ≡ certs)

-- standard input is not among them
abbrev pub LeavesInput : FileNames → Type 0
LeavesInput (One file) = is_input file ≡ false
LeavesInput (Both source certs) = (is_input source ≡ false) × (is_input certs ≡ false)

-- there is known to be no file of a name
abbrev pub lacks_file : (List ℕ → Bool) → List ℕ → Bool
lacks_file missing name = not (is_input name) && missing name

-- the same of certificates beside a source: beside one of standard input, `-` is a file
abbrev pub lacks_certs : (List ℕ → Bool) → List ℕ → List ℕ → Bool
lacks_certs missing source certs =
    if is_input source then missing certs else lacks_file missing certs

-- one of them is known to be missing
abbrev pub lacks : (List ℕ → Bool) → FileNames → Bool
lacks missing (One file) = lacks_file missing file
lacks missing (Both source certs) = lacks_file missing source || lacks_certs missing source certs
