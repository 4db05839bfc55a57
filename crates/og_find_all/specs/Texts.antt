-- The text of the certificates that are found.
use Rattle.std.specs.Prelude.{◌≡◌, ℕ, zero, suc, ◌+◌, List, [], ◌∷◌, ◌++◌, length, Option, Some, None, slice_get}
use Rattle.std.specs.Global.{Vec}
use Rattle.og_cert_text.specs.Tree.{Cert}
use Rattle.og_cert_text.specs.Plain.{plain_cert}
use Rattle.og_cert_text.specs.Files.{Entries}
use Rattle.og_cert_text.specs.Lines.{ForCondition}
use Rattle.og_cert_text.specs.Shallow.{cert_lines}
use Rattle.og_cert_text.specs.Listing.{lines_text}
use Rattle.og_find.specs.declared.verdict.Verdict.{Verdict}
use Rattle.og_find.specs.declared.verdict.Verdict.TheVariants as verdicts
use Rattle.og_find_all.specs.Findings.{verdict_of}
use Rattle.og_find_all.specs.declared.findings.Findings.{Findings}

-- the certificate of a verdict, if it has one
abbrev pub certificate_in : Option Verdict → Option Cert
certificate_in None = None
certificate_in (Some (verdicts.True cert)) = Some (plain_cert cert)
certificate_in (Some (verdicts.False s)) = None
certificate_in (Some verdicts.Open) = None

-- its lines
abbrev pub lines_of : Option Cert → List ℕ
lines_of None = []
lines_of (Some c) = lines_text (cert_lines c)

-- the lines of the entry of condition n
abbrev pub entry_lines : ℕ → Option Cert → List ℕ
entry_lines n None = []
entry_lines n (Some c) = lines_text (ForCondition n ∷ cert_lines c)

-- the lines of the entries of this many conditions from this index on
abbrev pub lines_from : Findings → ℕ → ℕ → List ℕ
lines_from f i zero = []
lines_from f i (suc k) = entry_lines (i + 1) (certificate_in (verdict_of f i)) ++ lines_from f (i + 1) k

-- at each place of a verdict are the lines of its certificate, as far as there are lines
abbrev pub AreLines : List Verdict → List (Vec ℕ) → Type 0
AreLines vs all = (place : ℕ) (lines : Vec ℕ) → slice_get all place ≡ Some lines → lines.items ≡ lines_of (certificate_in (slice_get vs place))

-- the entry of condition n in front of others, if it has a certificate
abbrev pub with_first : ℕ → Option Cert → Entries → Entries
with_first n None es = es
with_first n (Some c) es = (n, c) ∷ es

-- the entries of this many conditions from this index on
abbrev pub entries_from : Findings → ℕ → ℕ → Entries
entries_from f i zero = []
entries_from f i (suc k) = with_first (i + 1) (certificate_in (verdict_of f i)) (entries_from f (i + 1) k)

-- the certificates of all conditions, by their numbers from 1
abbrev pub entries_of : Findings → Entries
entries_of f = entries_from f 0 (length f.own.items)
