-- What is found of a document, as JSON.
use Rattle.std.specs.Prelude.{ℕ, nat_lt, ◌^◌, List, [], ◌++◌, length, map, codes, string_bytes, Option, Some, None, IfSome, if◌then◌else◌}
use Rattle.serde_json.specs.Data.{Data, string, array, object, member, no_members}
use Rattle.serde_json.specs.View.{items_of}
use Rattle.og_report_prove.specs.Members.{utf8_text}
use Rattle.og_report_text.specs.Numbers.{natural}
use Rattle.og_lsp_text.specs.declared.encoding.Encoding.{Encoding}
use Rattle.og_lsp_diagnostics.specs.declared.diagnostic.Diagnostic.{Diagnostic}
use Rattle.og_lsp_diagnostics.specs.declared.diagnostic.Related.{Related}
use Rattle.og_lsp_diagnostics.specs.declared.diagnostic.Severity.{Severity}
use Rattle.og_lsp_diagnostics.specs.declared.diagnostic.Severity.TheVariants as severities
use Rattle.og_lsp_document.specs.Judged.{IsJudgement}
use Rattle.og_lsp_document.specs.declared.judged.Judgement.{Judgement}
use Rattle.og_lsp_features.specs.Values.{span_data}
use Rattle.og_lsp_features.specs.declared.document.Document.{Document}

-- the number that the protocol has for a severity
abbrev pub severity_number : Severity → ℕ
severity_number severities.Error = 1
severity_number severities.Warning = 2
severity_number severities.Information = 3

-- of a text and the name of its document; the members stand in the order of their names
module _ (encoding : Encoding) (uri text : List ℕ) where
  -- another place of which a diagnostic speaks
  abbrev pub related_data : Related → Data
  related_data r =
      let location = object (member (codes "range") (span_data encoding text r.span) (member (codes "uri") (string uri) no_members)) in
      object (member (codes "location") location (member (codes "message") (string (utf8_text r.message.items)) no_members))

  abbrev pub diagnostic_data : Diagnostic → Data
  diagnostic_data d =
      object (member (codes "code") (string (utf8_text d.code.items))
      (member (codes "message") (string (utf8_text d.message.items))
      (member (codes "range") (span_data encoding text d.span)
      (member (codes "relatedInformation") (array (items_of (map related_data d.related.items)))
      (member (codes "severity") (natural (severity_number d.severity))
      (member (codes "source") (string (codes "og")) no_members))))))

  -- what is wrong with it, and behind that what a reviewer is told
  abbrev pub diagnostics_data : Judgement → Data
  diagnostics_data j = array (items_of (map diagnostic_data (j.diagnostics.items ++ j.remarks.items)))

  -- none where it is longer than messages are
  abbrev pub short_data : Judgement → Data
  short_data j = if nat_lt (2 ^ 24) (length text) then array (items_of []) else diagnostics_data j

  -- none where it is not judged
  abbrev pub found_data : Option Judgement → Data
  found_data None = array (items_of [])
  found_data (Some j) = short_data j

-- what is found of a document is so
abbrev pub IsJudged : Document → Type 0
IsJudged d = IfSome d.judgement (IsJudgement (string_bytes d.text))
