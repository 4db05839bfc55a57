-- Laws of reading.
use Rattle.std.specs.Prelude.{◌≡◌, ◌≤◌, ℕ, List, length, true, ⊤, Result, Ok, Err}
use Rattle.og_cert_text.specs.declared.file.CertFile.{CertFile}
use Rattle.og_cert_text.specs.declared.fault.CertTextError.{CertTextError}
use Rattle.og_cert_text.specs.declared.fault.CertTextError.TheVariants as errors
use Rattle.og_cert_text.specs.Tree.{Cert}
use Rattle.og_cert_text.specs.Shallow.{is_well_formed}
use Rattle.og_cert_text.specs.Files.{Entries}
use Rattle.og_cert_text.specs.Rising.{is_file}
use Rattle.og_cert_text.specs.Shown.{shown}
use Rattle.og_cert_text.specs.Listing.{file_text}
use Rattle.og_cert_read.specs.Text.{most_text}
use Rattle.og_cert_read.specs.Reading.{LineFault}
use Rattle.og_cert_read.specs.Read.{Gives}
use Rattle.og_cert_read.specs.Answered.{IsRead}
use Rattle.og_cert_read.specs.Shared.{cert_text, shared_text}

-- the text of a file, within the limit, gives the file
abbrev pub WrittenIsRead : Type 0
WrittenIsRead = (es : Entries) → is_file es ≡ true → length (file_text es) ≤ most_text → Gives (file_text es) (Ok es)

-- version 2's text too
abbrev pub SharedIsRead : Type 0
SharedIsRead = (es : Entries) → is_file es ≡ true → length (shared_text es) ≤ most_text → Gives (shared_text es) (Ok es)

-- version 2's text is not longer
abbrev pub SharedIsShort : Type 0
SharedIsShort = (es : Entries) → length (shared_text es) ≤ length (file_text es)

-- nor is it longer than any text that gives the file
abbrev pub SharedIsShortest : Type 0
SharedIsShortest = (text : List ℕ) (es : Entries) → Gives text (Ok es) → length (shared_text es) ≤ length text

-- certificates with one text are equal
abbrev pub OneCertificate : Type 0
OneCertificate = (c d : Cert) → is_well_formed c ≡ true → is_well_formed d ≡ true → cert_text c ≡ cert_text d → c ≡ d

-- a text gives one answer
abbrev pub OneAnswer : Type 0
OneAnswer = (text : List ℕ) (a b : Result Entries (LineFault × ℕ)) → Gives text a → Gives text b → a ≡ b

-- this file, unless memory ran out
abbrev pub IsThisFile : Entries → Result CertFile CertTextError → Type 0
IsThisFile es (Ok file) = shown file ≡ es
IsThisFile es (Err errors.Memory) = ⊤
IsThisFile es (Err (errors.Fault fault)) = ⊥

-- a text that gives a file is read as that file
abbrev pub GivenIsRead : Type 0
GivenIsRead = (text : List ℕ) (es : Entries) (r : Result CertFile CertTextError) → Gives text (Ok es) → IsRead text r → IsThisFile es r
