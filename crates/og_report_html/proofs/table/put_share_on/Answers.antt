use Rattle.std.proofs.Common.{◌≡◌, ◌++◌, ◌∙◌, List, subst}
use Rattle.std.specs.Prelude.{OnOk}
use Rattle.og_report_html.specs.Table.{share_text}
use Rattle.og_report_html.specs.declared.table.Disturbance.{Disturbance}
use Rattle.og_report_html.proofs.table.put_share_on.Goals as goal

pub returns : goal.returns
returns c =
    let r = c.put_share.result in
    subst (λ (l : List Disturbance). OnOk r (c.put_share.new.text.items ≡ c.args.text.now.items ++ share_text c.args.finding l))
    (c.deref.ensures.value ∙ c.in_ok-those.ensures) c.put_share.ensures
