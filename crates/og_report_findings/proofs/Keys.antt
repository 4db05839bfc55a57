-- How many keys there are.
use Rattle.std.proofs.Common.{◌≡◌, List, length, map, ◌∙◌}
use Rattle.std.proofs.lemmas.List.{length-map}
use Rattle.og_report_prove.specs.Together.{key_of}
use Rattle.og_report_text.specs.Origins.{Rows}
use Rattle.og_report_findings.specs.Causes.{keys_of}
use Rattle.og_report_findings.specs.Entries.{entry_of}
use Rattle.og_report_findings.specs.declared.entry.Entry.{Entry}

pub keys_length : (rows : Rows) (es : List Entry) → length (keys_of rows (map entry_of es)) ≡ length es
keys_length rows es = length-map (map entry_of es) (λ e. key_of rows e.condition e.diagnosis) ∙ length-map es entry_of
