use Rattle.std.proofs.Common.{◌≡◌, IfOk, map, subst}
use Rattle.og_cond.specs.Seen.{seen}
use Rattle.og_report_findings.specs.Json.{json_text}
use Rattle.og_report_text.specs.Subject.{subject_of}
use Rattle.og_command_prove.proofs.printing.as_json.Goals as goal

pub returns-clause-json : goal.returns-clause-json
returns-clause-json c =
    let s = subject_of c.args.subject.now in
    let t = c.args.table.now in
    let columns = c.columns.result in
    let is = c.columns.ensures in
    let r = c.json.result in
    subst (λ e. IfOk r (λ x. x.items ≡ json_text s.outline s.own e (map seen t.conditions.items) t.diagnoses.items t.runs.items)) is.explored
    (subst (λ rs. IfOk r (λ x. x.items ≡ json_text s.outline s.own columns.explored (map seen t.conditions.items) t.diagnoses.items rs)) is.runs
    (subst (λ ts. IfOk r (λ x. x.items ≡ json_text s.outline s.own columns.explored (map seen t.conditions.items) ts columns.runs.now)) is.diagnoses
    (subst (λ cs. IfOk r (λ x. x.items ≡ json_text s.outline s.own columns.explored (map seen cs) columns.diagnoses.now columns.runs.now)) is.conditions c.json.ensures.report)))
