use Rattle.std.proofs.Common.{◌∙◌}
use Rattle.og_report_findings.proofs.Filtered.{in_order_of}
use Rattle.og_report_findings.proofs.order.in_order.Goals as goal

pub returns : goal.returns
returns c =
    in_order_of c.args.entries.now c.in_ok-ordered.ordered.items c.deref.result.now c.deref-2.result.now c.extend_from_slice.new.self.items c.extend_from_slice-2.new.self.items
    c.in_ok-ordered.ensures (c.deref.ensures.value ∙ c.in_ok-open.ensures) (c.deref-2.ensures.value ∙ c.in_ok-never.ensures)
    c.in_ok-extend_from_slice.ensures.items c.in_ok-extend_from_slice-2.ensures.items
