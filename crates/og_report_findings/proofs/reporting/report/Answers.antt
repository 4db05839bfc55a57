use Rattle.std.proofs.Common.{◌∙◌, false, map, sym}
use Rattle.std.proofs.lemmas.List.{length-map}
use Rattle.std.proofs.lemmas.Result.{IfOk-weaker}
use Rattle.og_cond.specs.Seen.{seen}
use Rattle.og_report_findings.proofs.Ends.{never_stuck}
use Rattle.og_report_findings.proofs.Says.{text_exact, on_ok}
use Rattle.og_report_findings.proofs.Told.{are_told}
use Rattle.og_report_findings.proofs.reporting.report.Goals as goal

pub returns-clause-told : goal.returns-clause-told
returns-clause-told c =
    let f = c.args.findings in
    on_ok c.text_of.result
    (are_told c.args.outline.now.names c.args.source.now c.args.rows (map seen f.conditions.now) f.diagnoses.now f.runs.now (c.requires.each ∙ sym (length-map f.conditions.now seen)) (c.requires.run ∙ sym (length-map f.conditions.now seen)))

pub returns-clause-exact : goal.returns-clause-exact
returns-clause-exact c =
    let f = c.args.findings in
    IfOk-weaker c.text_of.result _ _
    (λ t is. text_exact c.args.outline.now f.explored f.advice.now c.args.source.now c.args.rows (map seen f.conditions.now) f.diagnoses.now f.runs.now t.items is) c.text_of.ensures

pub returns-clause-never_stuck : goal.returns-clause-never_stuck
returns-clause-never_stuck c =
    let f = c.args.findings in
    IfOk-weaker c.text_of.result _ _
    (λ t is. never_stuck false f.diagnoses.now f.explored t.items (text_exact c.args.outline.now f.explored f.advice.now c.args.source.now c.args.rows (map seen f.conditions.now) f.diagnoses.now f.runs.now t.items is)) c.text_of.ensures
