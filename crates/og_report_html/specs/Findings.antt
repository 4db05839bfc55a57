-- The finding on a condition that is not proved.
use Rattle.std.specs.Prelude.{ℕ, List, Bool, Option, Some, None, codes}
use Rattle.og_report_prove.specs.Report.{is_false, is_open}
use Rattle.og_report_prove.specs.declared.diagnosis.Diagnosis.{Diagnosis}
use Rattle.og_report_prove.specs.declared.diagnosis.Diagnosis.TheVariants as diagnosis
use Rattle.og_report_html.specs.declared.finding.Finding.{Finding}
use Rattle.og_report_html.specs.declared.finding.Finding.TheVariants as finding

abbrev pub finding_of : Diagnosis → Option Finding
finding_of diagnosis.Proved = None
finding_of (diagnosis.False block) = Some finding.False
finding_of diagnosis.Open = Some finding.Open

abbrev pub is_found : Finding → Diagnosis → Bool
is_found finding.False t = is_false t
is_found finding.Open t = is_open t

abbrev pub word : Finding → List ℕ
word finding.False = codes "false"
word finding.Open = codes "open"

-- a cross or a question mark
abbrev pub sign : Finding → List ℕ
sign finding.False = codes "&#10007;"
sign finding.Open = codes "?"
