use Rattle.std.proofs.Common.{take, map}
use Rattle.og_cond.specs.Seen.{seen}
use Rattle.og_report_prove.specs.Diagnosis.{AreDiagnoses}
use Rattle.og_lsp_document.proofs.diagnosing.diagnoses_of.Given as goal

abbrev pub invariant-loop-i : goal.invariant-loop-i
invariant-loop-i l = AreDiagnoses l.outline (take l.i (map seen l.conditions)) l.diagnoses.items
