-- What is printed of certificates that are made, and the status.
use Rattle.std.specs.Prelude.{◌≡◌, ◌<◌, ◌≤◌, ◌==◌, if◌then◌else◌, ℕ, List, length, Option, Some, None}
use Rattle.og_typed.specs.Syntax.{Program}
use Rattle.og_cond.specs.Condition.{Condition}
use Rattle.og_cond.specs.Conditions.{conditions}
use Rattle.og_cond.specs.Limits.{condition_limit}
use Rattle.og_cert_text.specs.Files.{Entries}
use Rattle.og_cert_text.specs.Listing.{file_text}
use Rattle.og_cert_read.specs.Read.{IsWrong}
use Rattle.og_cert_read.specs.Shared.{shared_text}
use Rattle.og_find.specs.Found.{AreOf}
use Rattle.og_find.specs.Missing.{missing_up_to}
use Rattle.og_report_text.specs.declared.answer.Answer.{Answer}
use Rattle.og_report_text.specs.declared.fault.InputFault.{InputFault}
use Rattle.og_report_text.specs.declared.fault.InputFault.TheVariants as faults
use Rattle.og_judge.specs.Migrated.{IsMigration, HasSameAnswers}
use Rattle.og_command_check.specs.declared.making.CertificateText.{CertificateText}
use Rattle.og_command_check.specs.declared.making.CertificateText.TheVariants as texts
use Rattle.og_command_check.specs.declared.making.FindReply.{FindReply}
use Rattle.og_command_check.specs.declared.making.FindReply.TheVariants as replies
use Rattle.og_command_check.specs.declared.making.FoundCertificates.{FoundCertificates}
use Rattle.og_command_check.specs.declared.making.LongText.{LongText}

-- the text of a file in this version
abbrev pub text_in : ℕ → Entries → List ℕ
text_in version es = if version == 2 then shared_text es else file_text es

abbrev pub text_of : CertificateText → List ℕ
text_of (texts.First certificates) = certificates
text_of (texts.Second text) = text.items

-- 0 where no condition lacks a certificate, and else 1
abbrev pub status_of_found : FoundCertificates → ℕ
status_of_found found = if found.missing.count == 0 then 0 else 1

-- the text of certificates, each of one of the conditions, and how many conditions have none
abbrev pub HasCertificates : ℕ → List Condition → FoundCertificates → Type 0
HasCertificates version cs found =
    (es : Entries) × AreOf cs es × (text_of found.text ≡ text_in version es)
    × (found.missing.count ≡ missing_up_to es (length cs)) × (found.missing.conditions ≡ length cs)

-- this many bytes, which are no more than the limit; nothing where they are more
abbrev pub IsLength : ℕ → ℕ → Option ℕ → Type 0
IsLength limit bytes None = limit < bytes
IsLength limit bytes (Some n) = (n ≡ bytes) × (n ≤ limit)

-- the text of certificates of the conditions is longer than the limit in this version; in version 2
-- it has this many bytes
abbrev pub IsTooLong : ℕ → ℕ → List Condition → LongText → Type 0
IsTooLong version limit cs long =
    (long.limit ≡ limit) × ((es : Entries) × AreOf cs es × (limit < length (text_in version es)))
    × ((es : Entries) × AreOf cs es × IsLength limit (length (shared_text es)) long.second)

-- a text within the limit, or that it would be longer
abbrev pub IsSearched : ℕ → ℕ → List Condition → FindReply → Type 0
IsSearched version limit cs (replies.Found found) =
    HasCertificates version cs found × (length (text_of found.text) ≤ limit)
IsSearched version limit cs (replies.TooLong long) = IsTooLong version limit cs long

-- the same of a file's text in version 2, of this many conditions
abbrev pub IsSecond : ℕ → ℕ → Entries → FindReply → Type 0
IsSecond limit count es (replies.Found found) =
    (text_of found.text ≡ shared_text es) × (length (shared_text es) ≤ limit)
    × (found.missing.count ≡ missing_up_to es count) × (found.missing.conditions ≡ count)
IsSecond limit count es (replies.TooLong long) =
    (long.limit ≡ limit) × (limit < length (shared_text es)) × (long.second ≡ None)

-- those of the conditions of the outline, which are within the limit
abbrev pub IsFound : ℕ → ℕ → Program → FindReply → Type 0
IsFound version limit o reply =
    (length (conditions o) ≤ condition_limit) × IsSearched version limit (conditions o) reply

-- the text in version 2, which answers as the given one, with status 0
abbrev pub IsMigrated : List ℕ → Answer → Type 0
IsMigrated certs answer =
    IsMigration certs answer.text.items × HasSameAnswers certs answer.text.items
    × (answer.status ≡ 0)

-- the certificates are not read, and this is why
abbrev pub IsFaultOfCerts : List ℕ → InputFault → Type 0
IsFaultOfCerts certs (faults.Certs fault) = IsWrong certs fault
IsFaultOfCerts certs _ = ⊥
