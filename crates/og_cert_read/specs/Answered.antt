-- What the reading of a text answers.
use Rattle.std.specs.Prelude.{ℕ, List, Result, Ok, Err}
use Rattle.og_cert_text.specs.declared.file.CertFile.{CertFile}
use Rattle.og_cert_text.specs.declared.fault.CertTextError.{CertTextError}
use Rattle.og_cert_text.specs.declared.fault.CertTextError.TheVariants as errors
use Rattle.og_cert_text.specs.Shown.{shown}
use Rattle.og_cert_read.specs.Read.{Gives, HasLines, IsWrong}

-- the file that the text stands for, or its fault; or memory ran out, which takes lines behind a version
abbrev pub IsRead : List ℕ → Result CertFile CertTextError → Type 0
IsRead text (Ok file) = Gives text (Ok (shown file))
IsRead text (Err errors.Memory) = HasLines text
IsRead text (Err (errors.Fault fault)) = IsWrong text fault
