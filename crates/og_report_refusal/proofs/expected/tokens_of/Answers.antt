use Rattle.og_text.proofs.OneCut.{no_fault}
use Rattle.og_report_refusal.proofs.expected.tokens_of.Goals as goal

pub unreachable-requires : goal.unreachable-requires
unreachable-requires c = no_fault c.args.source.now c.requires.0 c.in-Err-Fault.field-0-0 c.requires.1 (rw c.in-Err-Fault.field-0-is at c.in-Err-Fault.ensures.error)
