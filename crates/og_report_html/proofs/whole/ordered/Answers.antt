use Rattle.std.proofs.Common.{◌≡◌, ◌∙◌, List, map, ap, subst}
use Rattle.std.specs.Prelude.{IfOk}
use Rattle.og_report_findings.specs.Entries.{Entry, entry_of}
use Rattle.og_report_findings.specs.Order.{in_order}
use Rattle.og_report_html.proofs.whole.ordered.Goals as goal

pub returns : goal.returns
returns c =
    subst (λ (l : List Entry). IfOk c.in_order.result (λ v. map entry_of v.items ≡ in_order l)) (ap (map entry_of) c.deref.ensures.value ∙ c.in_ok-unproved.ensures) c.in_order.ensures
