use Rattle.std.proofs.Common.{◌≡◌, ◌++◌, ◌∙◌, List, subst}
use Rattle.std.specs.Prelude.{OnOk}
use Rattle.og_report_html.specs.Table.{disturbances_from, table_of}
use Rattle.og_report_html.specs.declared.finding.Finding.TheVariants as finding
use Rattle.og_report_html.specs.declared.table.Disturbance.{Disturbance}
use Rattle.og_report_html.proofs.table.put_table.Goals as goal

pub returns : goal.returns
returns c =
    let diagnoses = c.args.diagnoses.now in
    let targets = c.args.targets.now in
    let table = λ (w u : List Disturbance). OnOk c.put_disturbances.result (c.put_disturbances.new.text.items ≡ c.args.text.now.items ++ table_of c.args.count w u) in
    subst (λ (w : List Disturbance). table w (disturbances_from finding.Open 1 diagnoses targets)) (c.deref.ensures.value ∙ c.in_ok-wrong.ensures)
    (subst (λ (u : List Disturbance). table c.deref.result.now u) (c.deref-2.ensures.value ∙ c.in_ok-unknown.ensures) c.put_disturbances.ensures)
