-- What calls on files of certificates may answer.
use Rattle.std.specs.Prelude.{◌≡◌, ℕ, not, ◌&&◌, if◌then◌else◌, Option, Some, None, is_some, is_none, Result, Ok, Err}
use Rattle.og_cert_text.specs.declared.file.CertFile.{CertFile}
use Rattle.og_cert_text.specs.declared.fault.CertFileFault.{CertFileFault}
use Rattle.og_cert_text.specs.declared.fault.CertFileFault.TheVariants as faults
use Rattle.og_cert_text.specs.declared.fault.CertFileError.{CertFileError}
use Rattle.og_cert_text.specs.declared.fault.CertFileError.TheVariants as errors
use Rattle.og_cert_text.specs.Tree.{Cert}
use Rattle.og_cert_text.specs.Lines.{is_number}
use Rattle.og_cert_text.specs.Shallow.{is_shallow, is_well_formed}
use Rattle.og_cert_text.specs.Files.{Entries, certificate_of, with_entry}
use Rattle.og_cert_text.specs.Stored.{stored}

-- the entries of a file, by rising numbers
abbrev pub shown : CertFile → Entries
shown f = stored f.numbers.entries f.certs.items

-- why this entry is not added, if it isn't
abbrev pub fault_of_entry : ℕ → Cert → Entries → Option CertFileFault
fault_of_entry n c es =
    if is_some (certificate_of n es) then Some faults.Twice
    else (if not (is_shallow 0 c) then Some faults.TooDeep
    else (if not (is_number n && is_well_formed c) then Some faults.BadNumber else None))

-- why certificate k is not added under n too, if it isn't
abbrev pub fault_of_same : ℕ → ℕ → Entries → Option CertFileFault
fault_of_same n k es =
    if is_some (certificate_of n es) then Some faults.Twice
    else (if is_none (certificate_of k es) then Some faults.NoSuchCertificate
    else (if not (is_number n) then Some faults.BadNumber else None))

-- where there is no fault, the file has this entry more, or memory ran out; else the entry is refused with the fault. After an error the file has what it had
abbrev pub IsAdded : Result (Unit {0}) CertFileError → Option CertFileFault → Option Cert → ℕ → Entries → Entries → Type 0
IsAdded (Ok x) fault None n before after = ⊥
IsAdded (Ok x) fault (Some c) n before after = (fault ≡ None) × (after ≡ with_entry n c before)
IsAdded (Err errors.Memory) fault c n before after = (fault ≡ None) × (after ≡ before)
IsAdded (Err (errors.Fault f)) fault c n before after = (fault ≡ Some f) × (after ≡ before)
