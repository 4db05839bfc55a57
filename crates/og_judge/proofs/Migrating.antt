-- Two texts that give one file answer alike.
use Rattle.std.proofs.Common.{◌≡◌, ◌≤◌, sym, subst, List, ℕ, length, Result, Ok, Err, true, arith}
use Rattle.og_typed.specs.Syntax.{Program}
use Rattle.og_cert_text.specs.Files.{Entries}
use Rattle.og_cert_text.specs.Rising.{is_file}
use Rattle.og_cert_read.specs.Text.{most_text}
use Rattle.og_cert_read.specs.Reading.{LineFault}
use Rattle.og_cert_read.specs.Read.{Gives}
use Rattle.og_cert_read.specs.Shared.{shared_text}
use Rattle.og_cert_read.specs.Laws.{OneAnswer, GivenIsRead, SharedIsRead, SharedIsShortest}
use Rattle.og_cert_text.specs.declared.fault.CertTextError.TheVariants as errors
use Rattle.og_report_text.specs.declared.fault.InputFault.{InputFault}
use Rattle.og_report_text.specs.declared.fault.InputFault.TheVariants as faults
use Rattle.og_judge.specs.declared.entry.Entry.{Entry}
use Rattle.og_judge.specs.Entries.{AreEntries, IsStray}
use Rattle.og_judge.specs.Report.{IsRefused}
use Rattle.og_judge.specs.Migrated.{IsMigration, AnswersAs, HasSameAnswers}

same_file : (x y : Entries) → ◌≡◌ {A = Result Entries (LineFault × ℕ)} (Ok x) (Ok y) → x ≡ y
same_file x y e = cc

entries : (given text : List ℕ) (file : Entries) → OneAnswer → Gives given (Ok file) → Gives text (Ok file)
    → (o : Program) (es : List Entry) → AreEntries given o es → AreEntries text o es
entries given text file one g h o es r =
    let same = same_file file r.file (one given (Ok file) (Ok r.file) g r.read) in
    record {
      few = r.few;
      file = r.file;
      read = subst (λ (f : Entries). Gives text (Ok f)) same h;
      none_stray = r.none_stray;
      listed = r.listed;
    }

stray : (given text : List ℕ) (file : Entries) → OneAnswer → Gives given (Ok file) → Gives text (Ok file)
    → (o : Program) (n : ℕ) → IsStray given o n → IsStray text o n
stray given text file one g h o n s =
    let same = same_file file s.file (one given (Ok file) (Ok s.file) g s.read) in
    record {
      few = s.few;
      file = s.file;
      read = subst (λ (f : Entries). Gives text (Ok f)) same h;
      above = s.above;
      there = s.there;
      least = s.least;
    }

-- a text that gives a file has no fault
refusals : (given text : List ℕ) (file : Entries) → OneAnswer → GivenIsRead → Gives given (Ok file) → Gives text (Ok file)
    → (source : List ℕ) (why : InputFault) → IsRefused source given why → IsRefused source text why
refusals given text file one never g h source (faults.Source fault) r = r
refusals given text file one never g h source (faults.Conditions fault) r = r
refusals given text file one never g h source (faults.Certs fault) r = absurd (never given file (Err (errors.Fault fault)) g r.2.1)
refusals given text file one never g h source (faults.Stray n) r = (r.0, r.1, stray given text file one g h r.0 n r.2)

answers : (given text : List ℕ) (file : Entries) → OneAnswer → GivenIsRead → Gives given (Ok file) → Gives text (Ok file) → AnswersAs given text
answers given text file one never g h = record {
  reports = λ source o es r. record { outline = r.outline; found = entries given text file one g h o es r.found };
  refusals = refusals given text file one never g h;
}

-- version 2's text of a file that a text gives
pub migrated : (given text : List ℕ) (file : Entries) → SharedIsRead → SharedIsShortest → is_file file ≡ true → Gives given (Ok file)
    → text ≡ shared_text file → IsMigration given text
migrated given text file shared shortest is g written =
    let short = shortest given file g in
    record {
      file = file;
      read = g;
      written = written;
      again = subst (λ (t : List ℕ). Gives t (Ok file)) (sym written) (shared file is (within (length (shared_text file)) (length given) short g.0));
      short = subst (λ (t : List ℕ). length t ≤ length given) (sym written) short;
    }
  where
    within : (a b : ℕ) → a ≤ b → b ≤ most_text → a ≤ most_text
    within a b h k = omega (arith, h, k)

pub alike : (given text : List ℕ) → OneAnswer → GivenIsRead → IsMigration given text → HasSameAnswers given text
alike given text one never m = (answers given text m.file one never m.read m.again, answers text given m.file one never m.again m.read)
