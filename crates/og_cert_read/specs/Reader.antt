-- The part read so far, as the program has it: the words of the contracts of private functions.
use Rattle.std.specs.Prelude.{◌≡◌, ℕ, ◌+◌, ◌<◌, List, [], map, length, true, ⊤, Option, Some, None, Result, Ok, Err, IsOk}
use Rattle.og_cert_text.specs.declared.file.CertFile.{CertFile}
use Rattle.og_cert_text.specs.declared.fault.CertTextFault.{CertTextFault}
use Rattle.og_cert_text.specs.declared.fault.CertTextFault.TheVariants as faults
use Rattle.og_cert_text.specs.declared.fault.CertTextError.{CertTextError}
use Rattle.og_cert_text.specs.declared.fault.CertTextError.TheVariants as errors
use Rattle.og_cert_text.specs.Lines as lines
use Rattle.og_cert_text.specs.Files.{Entries, certificate_of}
use Rattle.og_cert_text.specs.Shown.{shown}
use Rattle.og_cert_text.specs.Text as text
use Rattle.og_cert_read.specs.declared.reader.Version.{Version}
use Rattle.og_cert_read.specs.declared.reader.Version.TheVariants as versions
use Rattle.og_cert_read.specs.declared.reader.Reader.{Reader}
use Rattle.og_cert_read.specs.Text.{pieces}
use Rattle.og_cert_read.specs.Words.{line_of}
use Rattle.og_cert_read.specs.Reading.{Frame, Place, Between, Within, Reading, LineFault, BadLine, Twice, TooDeep, read_lines}
use Rattle.og_cert_read.specs.Levels.{steps_frames, levels_frames, AreGoodFrames}

abbrev pub version_of : Version → text.Version
version_of versions.One = text.One
version_of versions.Two = text.Two

-- ---- lines as they are read word by word

abbrev pub read_piece : Option (List ℕ) → Option lines.Line
read_piece None = None
read_piece (Some bytes) = line_of bytes

abbrev pub lines_of : List ℕ → List (Option lines.Line)
lines_of bytes = map read_piece (pieces bytes)

-- ---- the part read so far

abbrev pub frames_of : Reader → List Frame
frames_of r = steps_frames r.steps.items (levels_frames r.levels.items [])

abbrev pub place_in : Option ℕ → List Frame → Place
place_in None fs = Between
place_in (Some n) fs = Within n fs

abbrev pub place_of : Reader → Place
place_of r = place_in r.number (frames_of r)

abbrev pub reading_of : Reader → Reading
reading_of r = record { done = shown r.file; place = place_of r }

-- condition n may have a certificate, and has none yet
abbrev pub IsOpen : ℕ → CertFile → Type 0
IsOpen n file = (lines.is_number n ≡ true) × (certificate_of n (shown file) ≡ None)

abbrev pub IsSoundAt : Option ℕ → CertFile → List Frame → Type 0
IsSoundAt None file fs = ⊤
IsSoundAt (Some n) file fs = IsOpen n file × AreGoodFrames fs

-- the open branches are within the limits
abbrev pub IsSound : Reader → Type 0
IsSound r = IsSoundAt r.number r.file (frames_of r)

-- ---- what a line may answer

abbrev pub fault_at : LineFault → ℕ → CertTextFault
fault_at BadLine at = faults.BadLine at
fault_at Twice at = faults.Twice at
fault_at TooDeep at = faults.TooDeep at

abbrev pub refused : LineFault → ℕ → CertTextError
refused e at = errors.Fault (fault_at e at)

-- this fault of the line; or memory ran out at a line without a fault
abbrev pub IsRefusal : CertTextError → ℕ → Result Reading LineFault → Type 0
IsRefusal errors.Memory at answer = IsOk answer
IsRefusal (errors.Fault f) at answer = (e : LineFault) × (answer ≡ Err e) × (f ≡ fault_at e at)

-- the line gives this reading, or is refused
abbrev pub IsTaken : Result (Unit {0}) CertTextError → ℕ → Result Reading LineFault → Reader → Type 0
IsTaken (Ok x) at answer new = (answer ≡ Ok (reading_of new)) × IsSound new
IsTaken (Err e) at answer new = IsRefusal e at answer

-- this fault of the lines, or memory ran out
abbrev pub IsStopped : CertTextError → Result Entries (LineFault × ℕ) → Type 0
IsStopped errors.Memory answer = ⊤
IsStopped (errors.Fault f) answer = (e : LineFault) × (at : ℕ) × (answer ≡ Err (e, at)) × (f ≡ fault_at e at)

-- the first line is taken, and the rest gives what the whole gave
pub record IsNext (v : text.Version) (at : ℕ) (whole rest : List ℕ) (old new : Reader) : Type 0 where
  pub less : length rest < length whole
  pub same : read_lines v at (reading_of old) (lines_of whole) ≡ read_lines v (at + 1) (reading_of new) (lines_of rest)
  pub sound : IsSound new

-- the file, or the fault
abbrev pub IsFile : Result CertFile CertTextError → Result Entries (LineFault × ℕ) → Type 0
IsFile (Ok file) answer = answer ≡ Ok (shown file)
IsFile (Err e) answer = IsStopped e answer
