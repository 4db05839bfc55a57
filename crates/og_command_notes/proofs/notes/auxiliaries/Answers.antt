use Rattle.std.proofs.Common.{length}
use Rattle.og_command_notes.specs.Notes.{auxiliaries}
use Rattle.og_review_text.proofs.Ranges.{added_next}
use Rattle.og_command_notes.proofs.notes.auxiliaries.Goals as goal

pub loop-var-preserved : goal.loop-var-preserved
loop-var-preserved c =
    added_next c.loop-var.auxiliaries.items c.push.new.self.items (auxiliaries c.args.outline.now) c.loop-var.var (length c.names.result.now) c.loop-var-test.true c.in_ok-push.ensures.items c.loop-var.invariant
