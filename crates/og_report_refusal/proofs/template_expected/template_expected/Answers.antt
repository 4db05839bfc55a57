use Rattle.std.proofs.Common.{inr}
use Rattle.og_report_refusal.proofs.Templates.{no_words}
use Rattle.og_report_refusal.proofs.template_expected.template_expected.Goals as goal

pub returns-in_ok-text-in-Err-Fault : goal.returns-in_ok-text-in-Err-Fault
returns-in_ok-text-in-Err-Fault c = inr (no_words c.args.source.now c.in-Err-Fault.field-0-0 c.requires (rw c.in-Err-Fault.field-0-is at c.in-Err-Fault.ensures.error), c.in_ok-text-in-Err-Fault.ensures.items)
