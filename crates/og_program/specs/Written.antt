-- What is written of an outcome, of a fault or of wrong words, and how the program ends.
use Rattle.std.specs.Prelude.{◌≡◌, ◌⊎◌, ℕ, Bool, true, false, List, [], ◌++◌, Option, None, Some, Result, Ok, Err, Vec, codes}
use Rattle.std.specs.Global.{Global}
use Rattle.std.specs.Io.KnownBytes.{Appends, Keeps}
use Rattle.std.specs.declared.alloc.AllocError.{AllocError}
use Rattle.og_report_refusal.specs.Names.{shown_name}
use Rattle.og_command_check.specs.Making.{text_of, status_of_found}
use Rattle.og_io.specs.Written.{AppendsFront}
use Rattle.og_io.specs.declared.fault.OutputFault.{OutputFault}
use Rattle.og_io.specs.declared.fault.WriteFault.{WriteFault}
use Rattle.og_program.specs.World.{Stream, Trace}
use Rattle.og_program.specs.Failing.{fault_text, is_not_written, of_output}
use Rattle.og_program.specs.declared.ended.Ended.{Ended}
use Rattle.og_program.specs.declared.fault.Fault.{Fault}
use Rattle.og_program.specs.declared.fault.Fault.TheVariants as faults
use Rattle.og_program.specs.declared.outcome.BadValue.{BadValue}
use Rattle.og_program.specs.declared.outcome.Certificates.{Certificates}
use Rattle.og_program.specs.declared.outcome.Outcome.{Outcome}
use Rattle.og_program.specs.declared.outcome.Outcome.TheVariants as outcomes
use Rattle.og_program.specs.declared.outcome.Report.{Report}

-- ---- to one stream

-- the text goes to the end of what the stream holds
abbrev pub Gets : Stream → List ℕ → Type 0
Gets stream text = Appends stream.before stream.after text

-- a front of it does
abbrev pub GetsFront : Stream → List ℕ → Type 0
GetsFront stream text = AppendsFront stream.before stream.after text

-- nothing does
abbrev pub GetsNothing : Stream → Type 0
GetsNothing stream = Keeps stream.before stream.after

-- the text, or a front of it where it could not be written whole
abbrev pub GetsText : Bool → Stream → List ℕ → Type 0
GetsText true stream text = Gets stream text
GetsText false stream text = GetsFront stream text

-- ---- to standard error

-- the text, with this status
abbrev pub Complains : List ℕ → ℕ → Stream → Ended → Type 0
Complains text status err ended = (ended.status ≡ status) × GetsText ended.written err text

-- nothing
abbrev pub IsSilent : Stream → Ended → Type 0
IsSilent err ended = GetsNothing err × (ended.written ≡ true)

-- the note, where there is one; or that memory for it was refused
abbrev pub GetsNote : Result (Option (Vec ℕ Global)) AllocError → Stream → Ended → Type 0
GetsNote (Ok None) err ended = IsSilent err ended
GetsNote (Ok (Some text)) err ended = GetsText ended.written err text.items
GetsNote (Err refused) err ended = GetsText ended.written err (fault_text faults.Memory)

-- the text, with this status, or that memory ran out where the text could not be made
abbrev pub SaysWhy : List ℕ → ℕ → Stream → Ended → Type 0
SaysWhy text status err ended =
    Complains text status err ended ⊎ Complains (fault_text faults.Memory) 4 err ended

-- ---- of a fault

-- its text goes to standard error; only a failed write changes standard output
abbrev pub Fails : Fault → Trace → Type 0
Fails fault t =
    (is_not_written fault ≡ false → GetsNothing t.out) × SaysWhy (fault_text fault) 4 t.err t.ended

-- the text cannot be written whole to standard output
abbrev pub FailsToWrite : List ℕ → Trace → Type 0
FailsToWrite text t = GetsFront t.out text × ((why : WriteFault) × Fails (faults.NotWritten why) t)

-- a text that is written as it is made is not written whole: writing failed, or memory ran out
abbrev pub Stops : List ℕ → Trace → Type 0
Stops text t =
    GetsFront t.out text
    × ((why : OutputFault) × SaysWhy (fault_text (of_output why)) 4 t.err t.ended)

-- ---- of an outcome

-- the text, with this status and this note
abbrev pub Prints : List ℕ → ℕ → Result (Option (Vec ℕ Global)) AllocError → Trace → Type 0
Prints text status note t =
    Gets t.out text × (t.ended.status ≡ status) × GetsNote note t.err t.ended

-- the line, where there is one
abbrev pub line_or_nothing : Option (Vec ℕ Global) → List ℕ
line_or_nothing None = []
line_or_nothing (Some line) = line.items

abbrev pub bad_value_text : BadValue → List ℕ
bad_value_text bad =
    codes "bad value: " ++ shown_name bad.word.now ++ codes "\n" ++ line_or_nothing bad.why

abbrev pub WritesReport : Report → Trace → Type 0
WritesReport report t =
    Prints report.answer.text.items report.answer.status report.note t
    ⊎ FailsToWrite report.answer.text.items t

abbrev pub WritesCertificates : Certificates → Trace → Type 0
WritesCertificates certs t =
    Prints (text_of certs.found.text) (status_of_found certs.found) certs.note t
    ⊎ Stops (text_of certs.found.text) t

abbrev pub WritesListing : List ℕ → Trace → Type 0
WritesListing text t = Prints text 0 (Ok None) t ⊎ Stops text t

-- the word that gives no value, and the line why, go to standard error
abbrev pub WritesBadValue : BadValue → Trace → Type 0
WritesBadValue bad t = GetsNothing t.out × SaysWhy (bad_value_text bad) 3 t.err t.ended

-- so does the line of a step that cannot be made
abbrev pub WritesNotMade : List ℕ → Trace → Type 0
WritesNotMade line t = GetsNothing t.out × Complains line 3 t.err t.ended

abbrev pub Writes : Outcome → Trace → Type 0
Writes (outcomes.Report report) = WritesReport report
Writes (outcomes.Certificates certs) = WritesCertificates certs
Writes (outcomes.Listing text) = WritesListing text
Writes (outcomes.BadValue bad) = WritesBadValue bad
Writes (outcomes.NotMade line) = WritesNotMade line.items
