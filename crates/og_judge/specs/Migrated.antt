-- A text of certificates in version 2, and that it is worth as much as the given one.
use Rattle.std.specs.Prelude.{◌≡◌, ℕ, ◌≤◌, List, length, Ok, ⊤}
use Rattle.og_typed.specs.Syntax.{Program}
use Rattle.og_cert_text.specs.Files.{Entries}
use Rattle.og_cert_text.specs.declared.fault.CertTextError.{CertTextError}
use Rattle.og_cert_text.specs.declared.fault.CertTextError.TheVariants as errors
use Rattle.og_cert_read.specs.Read.{Gives, IsWrong}
use Rattle.og_cert_read.specs.Shared.{shared_text}
use Rattle.og_report_text.specs.declared.fault.InputFault.{InputFault}
use Rattle.og_judge.specs.declared.entry.Entry.{Entry}
use Rattle.og_judge.specs.Report.{IsReport, IsRefused}

-- version 2's text of the file that the given text gives: it gives the same file, and is not longer
pub record IsMigration (given text : List ℕ) : Type 0 where
  pub file : Entries
  pub read : Gives given (Ok file)
  pub written : text ≡ shared_text file
  pub again : Gives text (Ok file)
  pub short : length text ≤ length given

-- each report and each refusal of a source by the one text is one by the other
pub record AnswersAs (given text : List ℕ) : Type 0 where
  pub reports : (source : List ℕ) (o : Program) (entries : List Entry) → IsReport source given o entries → IsReport source text o entries
  pub refusals : (source : List ℕ) (why : InputFault) → IsRefused source given why → IsRefused source text why

abbrev pub HasSameAnswers : List ℕ → List ℕ → Type 0
HasSameAnswers given text = AnswersAs given text × AnswersAs text given

-- why a text is not read
abbrev pub IsUnreadable : List ℕ → CertTextError → Type 0
IsUnreadable certs errors.Memory = ⊤
IsUnreadable certs (errors.Fault fault) = IsWrong certs fault
