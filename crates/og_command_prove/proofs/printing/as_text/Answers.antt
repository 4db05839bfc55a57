use Rattle.std.proofs.Common.{◌≡◌, IfOk, map, subst}
use Rattle.og_cond.specs.Seen.{seen}
use Rattle.og_report_findings.specs.Report.{report_text}
use Rattle.og_report_text.specs.Subject.{subject_of}
use Rattle.og_command_prove.proofs.printing.as_text.Goals as goal

pub returns-clause-text : goal.returns-clause-text
returns-clause-text c =
    let s = subject_of c.args.subject.now in
    let t = c.args.table.now in
    let columns = c.columns.result in
    let is = c.columns.ensures in
    let r = c.report.result in
    subst (λ a. IfOk r (λ x. x.items ≡ report_text s.outline t.explored a s.given s.rows (map seen t.conditions.items) t.diagnoses.items t.runs.items)) is.advice
    (subst (λ e. IfOk r (λ x. x.items ≡ report_text s.outline e columns.advice.now s.given s.rows (map seen t.conditions.items) t.diagnoses.items t.runs.items)) is.explored
    (subst (λ rs. IfOk r (λ x. x.items ≡ report_text s.outline columns.explored columns.advice.now s.given s.rows (map seen t.conditions.items) t.diagnoses.items rs)) is.runs
    (subst (λ ts. IfOk r (λ x. x.items ≡ report_text s.outline columns.explored columns.advice.now s.given s.rows (map seen t.conditions.items) ts columns.runs.now)) is.diagnoses
    (subst (λ cs. IfOk r (λ x. x.items ≡ report_text s.outline columns.explored columns.advice.now s.given s.rows (map seen cs) columns.diagnoses.now columns.runs.now)) is.conditions c.report.ensures.report))))
