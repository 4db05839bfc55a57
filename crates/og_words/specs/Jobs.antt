-- Which job words ask for.
use Rattle.std.specs.Prelude.{◌≡◌, ℕ, Bool, List, [], ◌∷◌, length, map, Option, None, Some, IfSome, option_map, Result, Ok, IfOk, slice_get, codes, string_bytes, true, false, ⊤}
use Rattle.std.specs.Borrow.{Bor}
use Rattle.std.specs.Str.{bytes_eq}
use Rattle.clap.specs.Words.{Row, Text}
use Rattle.og_words.specs.Given.{given, text_of, number_of, is_given, texts_of}
use Rattle.og_words.specs.declared.job.Verb.{Verb}
use Rattle.og_words.specs.declared.job.Verb.TheVariants as verbs
use Rattle.og_words.specs.declared.job.Check.{Check}
use Rattle.og_words.specs.declared.job.Conditions.{Conditions}
use Rattle.og_words.specs.declared.job.Erase.{Erase}
use Rattle.og_words.specs.declared.job.Expand.{Expand}
use Rattle.og_words.specs.declared.job.Explore.{Explore}
use Rattle.og_words.specs.declared.job.Find.{Find}
use Rattle.og_words.specs.declared.job.Format.{Format}
use Rattle.og_words.specs.declared.job.Infer.{Infer}
use Rattle.og_words.specs.declared.job.Migrate.{Migrate}
use Rattle.og_words.specs.declared.job.Notes.{Notes}
use Rattle.og_words.specs.declared.job.Promela.{Promela}
use Rattle.og_words.specs.declared.job.Prove.{Prove}
use Rattle.og_words.specs.declared.job.Run.{Run}
use Rattle.og_words.specs.declared.job.Show.{Show}
use Rattle.og_words.specs.declared.job.Job.{Job}
use Rattle.og_words.specs.declared.job.Job.TheVariants as jobs
use Rattle.og_words.specs.declared.job.Usage.{Usage}
use Rattle.og_words.specs.declared.job.Usage.TheVariants as usages

abbrev pub verb_name : Verb → List ℕ
verb_name verbs.Prove = codes "prove"
verb_name verbs.Infer = codes "infer"
verb_name verbs.Check = codes "check"
verb_name verbs.Notes = codes "notes"
verb_name verbs.Show = codes "show"
verb_name verbs.Conditions = codes "conditions"
verb_name verbs.Find = codes "find"
verb_name verbs.Erase = codes "erase"
verb_name verbs.Run = codes "run"
verb_name verbs.Explore = codes "explore"
verb_name verbs.Promela = codes "promela"
verb_name verbs.Expand = codes "expand"
verb_name verbs.Format = codes "fmt"
verb_name verbs.Migrate = codes "migrate"

-- how the words behind a source are named, of a command that takes some
abbrev pub words_form : Verb → Option (List ℕ)
words_form verbs.Prove = Some (codes "NAME=INT|LO..HI")
words_form verbs.Infer = Some (codes "NAME=INT|LO..HI")
words_form verbs.Check = None
words_form verbs.Notes = Some (codes "NAME=INT")
words_form verbs.Show = Some (codes "NAME=INT|LO..HI")
words_form verbs.Conditions = None
words_form verbs.Find = None
words_form verbs.Erase = None
words_form verbs.Run = Some (codes "NAME=INT")
words_form verbs.Explore = Some (codes "NAME=INT|LO..HI")
words_form verbs.Promela = Some (codes "NAME=INT|LO..HI")
words_form verbs.Expand = Some (codes "NAME=INT")
words_form verbs.Format = None
words_form verbs.Migrate = None

-- the words for an argument of this name, where there is one
abbrev pub HasWords : List Row → Option (List ℕ) → List Text → Type 0
HasWords rows form words = IfSome form (λ name. words ≡ texts_of name rows)

-- the word that names a job's command; the joined run has none
abbrev pub command_of : Job → Option (List ℕ)
command_of jobs.Joined = None
command_of (jobs.Prove prove) = Some (codes "prove")
command_of (jobs.Infer infer) = Some (codes "infer")
command_of (jobs.Check check) = Some (codes "check")
command_of (jobs.Notes notes) = Some (codes "notes")
command_of (jobs.Show show) = Some (codes "show")
command_of (jobs.Conditions conditions) = Some (codes "conditions")
command_of (jobs.Find find) = Some (codes "find")
command_of (jobs.Erase erase) = Some (codes "erase")
command_of (jobs.Run run) = Some (codes "run")
command_of (jobs.Explore explore) = Some (codes "explore")
command_of (jobs.Promela promela) = Some (codes "promela")
command_of (jobs.Expand expand) = Some (codes "expand")
command_of (jobs.Format format) = Some (codes "fmt")
command_of (jobs.Migrate migrate) = Some (codes "migrate")

-- the bytes of the words
abbrev pub word_bytes : List (Bor Text) → List Text
word_bytes words = map (λ w. w.now) words

-- runs are looked for where the flag is given, and then through as many moments
abbrev pub HoldsRuns : List Row → Option ℕ → Type 0
HoldsRuns rows None = is_given (codes "runs") rows ≡ false
HoldsRuns rows (Some limit) =
    (is_given (codes "runs") rows ≡ true) × (number_of (codes "limit") rows ≡ Some limit)

-- runs are looked for unless the flag says that none are, and then through as many moments
abbrev pub HoldsUsualRuns : List Row → Option ℕ → Type 0
HoldsUsualRuns rows None = is_given (codes "no-runs") rows ≡ true
HoldsUsualRuns rows (Some limit) =
    (is_given (codes "no-runs") rows ≡ false) × (number_of (codes "limit") rows ≡ Some limit)

-- ---- the arguments of each command are those that are given

pub record HoldsProve (rows : List Row) (prove : Prove) : Type 0 where
  pub source : text_of (codes "SOURCE") rows ≡ Some prove.source.now
  pub budget : number_of (codes "budget") rows ≡ Some prove.budget
  pub workers : number_of (codes "workers") rows ≡ Some prove.workers
  pub json : prove.json ≡ is_given (codes "json") rows
  pub words : word_bytes prove.words.items ≡ texts_of (codes "NAME=INT|LO..HI") rows
  pub runs : HoldsUsualRuns rows prove.runs
  pub suggest : prove.suggest ≡ is_given (codes "suggest") rows

pub record HoldsInfer (rows : List Row) (infer : Infer) : Type 0 where
  pub source : text_of (codes "SOURCE") rows ≡ Some infer.source.now
  pub aux : infer.aux ≡ is_given (codes "aux") rows
  pub budget : number_of (codes "budget") rows ≡ Some infer.budget
  pub limit : number_of (codes "limit") rows ≡ Some infer.limit
  pub workers : number_of (codes "workers") rows ≡ Some infer.workers
  pub json : infer.json ≡ is_given (codes "json") rows
  pub words : word_bytes infer.words.items ≡ texts_of (codes "NAME=INT|LO..HI") rows

pub record HoldsCheck (rows : List Row) (check : Check) : Type 0 where
  pub source : text_of (codes "SOURCE") rows ≡ Some check.source.now
  pub certs : text_of (codes "CERTS") rows ≡ Some check.certs.now
  pub workers : number_of (codes "workers") rows ≡ Some check.workers
  pub json : check.json ≡ is_given (codes "json") rows

pub record HoldsNotes (rows : List Row) (notes : Notes) : Type 0 where
  pub source : text_of (codes "SOURCE") rows ≡ Some notes.source.now
  pub budget : number_of (codes "budget") rows ≡ Some notes.budget
  pub words : word_bytes notes.words.items ≡ texts_of (codes "NAME=INT") rows

pub record HoldsShow (rows : List Row) (show : Show) : Type 0 where
  pub source : text_of (codes "SOURCE") rows ≡ Some show.source.now
  pub budget : number_of (codes "budget") rows ≡ Some show.budget
  pub workers : number_of (codes "workers") rows ≡ Some show.workers
  pub words : word_bytes show.words.items ≡ texts_of (codes "NAME=INT|LO..HI") rows
  pub runs : HoldsRuns rows show.runs

pub record HoldsConditions (rows : List Row) (conditions : Conditions) : Type 0 where
  pub source : text_of (codes "SOURCE") rows ≡ Some conditions.source.now
  pub triples : conditions.triples ≡ is_given (codes "triples") rows
  pub smt2 : conditions.smt2 ≡ is_given (codes "smt2") rows
  pub only : option_map (λ n. n.now) conditions.only ≡ text_of (codes "only") rows

pub record HoldsFind (rows : List Row) (find : Find) : Type 0 where
  pub source : text_of (codes "SOURCE") rows ≡ Some find.source.now
  pub budget : number_of (codes "budget") rows ≡ Some find.budget
  pub workers : number_of (codes "workers") rows ≡ Some find.workers
  pub version : number_of (codes "version") rows ≡ Some find.version

pub record HoldsErase (rows : List Row) (erase : Erase) : Type 0 where
  pub source : text_of (codes "SOURCE") rows ≡ Some erase.source.now
  pub readable : erase.readable ≡ is_given (codes "readable") rows

pub record HoldsRun (rows : List Row) (run : Run) : Type 0 where
  pub source : text_of (codes "SOURCE") rows ≡ Some run.source.now
  pub limit : number_of (codes "limit") rows ≡ Some run.limit
  pub erased : run.erased ≡ is_given (codes "erased") rows
  pub certs : option_map (λ c. c.now) run.certs ≡ text_of (codes "certs") rows
  pub schedule : option_map (λ s. s.now) run.schedule ≡ text_of (codes "schedule") rows
  pub values : word_bytes run.values.items ≡ texts_of (codes "NAME=INT") rows

pub record HoldsExplore (rows : List Row) (explore : Explore) : Type 0 where
  pub source : text_of (codes "SOURCE") rows ≡ Some explore.source.now
  pub limit : number_of (codes "limit") rows ≡ Some explore.limit
  pub workers : number_of (codes "workers") rows ≡ Some explore.workers
  pub erased : explore.erased ≡ is_given (codes "erased") rows
  pub json : explore.json ≡ is_given (codes "json") rows
  pub dot : explore.dot ≡ is_given (codes "dot") rows
  pub words : word_bytes explore.words.items ≡ texts_of (codes "NAME=INT|LO..HI") rows

pub record HoldsPromela (rows : List Row) (promela : Promela) : Type 0 where
  pub source : text_of (codes "SOURCE") rows ≡ Some promela.source.now
  pub erased : promela.erased ≡ is_given (codes "erased") rows
  pub words : word_bytes promela.words.items ≡ texts_of (codes "NAME=INT|LO..HI") rows

pub record HoldsExpand (rows : List Row) (expand : Expand) : Type 0 where
  pub template : text_of (codes "TEMPLATE") rows ≡ Some expand.template.now
  pub as_map : expand.as_map ≡ is_given (codes "map") rows
  pub values : word_bytes expand.values.items ≡ texts_of (codes "NAME=INT") rows

pub record HoldsFormat (rows : List Row) (format : Format) : Type 0 where
  pub source : text_of (codes "SOURCE") rows ≡ Some format.source.now
  pub check : format.check ≡ is_given (codes "check") rows

pub record HoldsMigrate (rows : List Row) (migrate : Migrate) : Type 0 where
  pub certs : text_of (codes "CERTS") rows ≡ Some migrate.certs.now

-- the job holds the value given for each argument of its command
abbrev pub Holds : List Row → Job → Type 0
Holds rows jobs.Joined = ⊤
Holds rows (jobs.Prove prove) = HoldsProve rows prove
Holds rows (jobs.Infer infer) = HoldsInfer rows infer
Holds rows (jobs.Check check) = HoldsCheck rows check
Holds rows (jobs.Notes notes) = HoldsNotes rows notes
Holds rows (jobs.Show show) = HoldsShow rows show
Holds rows (jobs.Conditions conditions) = HoldsConditions rows conditions
Holds rows (jobs.Find find) = HoldsFind rows find
Holds rows (jobs.Erase erase) = HoldsErase rows erase
Holds rows (jobs.Run run) = HoldsRun rows run
Holds rows (jobs.Explore explore) = HoldsExplore rows explore
Holds rows (jobs.Promela promela) = HoldsPromela rows promela
Holds rows (jobs.Expand expand) = HoldsExpand rows expand
Holds rows (jobs.Format format) = HoldsFormat rows format
Holds rows (jobs.Migrate migrate) = HoldsMigrate rows migrate

-- the first word is this one
abbrev pub begins_with : List ℕ → List (List ℕ) → Bool
begins_with word [] = false
begins_with word (w ∷ ws) = bytes_eq w word

-- what words ask for
pub record IsAsked (words : List (List ℕ)) (asked : Result Job Usage) : Type 0 where
  pub command : IfOk asked (λ job. command_of job ≡ slice_get words 0)
  pub arguments : IfOk asked (λ job. Holds (given words) job)
  pub none : length words ≡ 0 → asked ≡ Ok jobs.Joined

-- this text says the fault of the words, or there was no memory for it
abbrev pub SaysWrong : List ℕ → Usage → Type 0
SaysWrong text (usages.Asked help) = ⊥
SaysWrong text (usages.Wrong why) = string_bytes why ≡ text
SaysWrong text usages.Memory = ⊤
