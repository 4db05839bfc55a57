use Rattle.std.proofs.Common.{◌≡◌, ◌++◌, ◌∙◌, List, subst}
use Rattle.std.specs.Prelude.{OnOk}
use Rattle.std.specs.List.{filter}
use Rattle.og_report_html.specs.Table.{is_by, cells_text}
use Rattle.og_report_html.specs.declared.table.Disturbance.{Disturbance}
use Rattle.og_report_html.proofs.table.Disturbances.put_cells_of.Goals as goal

pub returns : goal.returns
returns c =
    let r = c.put_cells.result in
    let t0 = c.args.text.now.items in
    let new = c.put_cells.new.text.items in
    let wrong = filter (is_by c.args.process) c.args.self.now.wrong.now in
    let count = c.args.count in
    subst (λ (l : List Disturbance). OnOk r (new ≡ t0 ++ cells_text wrong l count)) (c.deref-2.ensures.value ∙ c.in_ok-unknown.ensures)
    (subst (λ (l : List Disturbance). OnOk r (new ≡ t0 ++ cells_text l c.deref-2.result.now count)) (c.deref.ensures.value ∙ c.in_ok-wrong.ensures) c.put_cells.ensures)
