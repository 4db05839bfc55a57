-- What the reading of a text may answer.
use Rattle.std.specs.Prelude.{◌≡◌, ℕ, ◌<◌, ◌≤◌, List, ◌++◌, length, Option, Result, Err}
use Rattle.og_cert_text.specs.declared.fault.CertTextFault.{CertTextFault}
use Rattle.og_cert_text.specs.declared.fault.CertTextFault.TheVariants as faults
use Rattle.og_cert_text.specs.Lines.{Line}
use Rattle.og_cert_text.specs.Files.{Entries}
use Rattle.og_cert_text.specs.Text.{Version, version_text}
use Rattle.og_cert_read.specs.Text.{most_text, pieces, EachSays}
use Rattle.og_cert_read.specs.Reading.{LineFault, BadLine, Twice, TooDeep, read_lines, nothing_read}

-- the text is within its limit and begins with a version, and this is what the lines after that give
abbrev pub Gives : List ℕ → Result Entries (LineFault × ℕ) → Type 0
Gives text answer =
    (length text ≤ most_text) × (v : Version) × (rest : List ℕ) × (text ≡ version_text v ++ rest)
    × (lines : List (Option Line)) × EachSays (pieces rest) lines × (read_lines v 2 nothing_read lines ≡ answer)

-- the text is within its limit, and behind its version there is more
abbrev pub HasLines : List ℕ → Type 0
HasLines text = (length text ≤ most_text) × (v : Version) × (rest : List ℕ) × (text ≡ version_text v ++ rest) × (0 < length rest)

-- this is the fault of the text
abbrev pub IsWrong : List ℕ → CertTextFault → Type 0
IsWrong text faults.CertsTooLong = most_text < length text
IsWrong text faults.BadVersion = (length text ≤ most_text) × ((v : Version) (rest : List ℕ) → text ≡ version_text v ++ rest → ⊥)
IsWrong text (faults.BadLine line) = Gives text (Err (BadLine, line))
IsWrong text (faults.Twice line) = Gives text (Err (Twice, line))
IsWrong text (faults.TooDeep line) = Gives text (Err (TooDeep, line))
