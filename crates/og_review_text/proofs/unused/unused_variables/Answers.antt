use Rattle.std.proofs.Common.{length}
use Rattle.og_review_text.specs.Unused.{unused_of, unused_variables}
use Rattle.og_review_text.proofs.Ranges.{told_next}
use Rattle.og_review_text.proofs.unused.unused_variables.Goals as goal

pub loop-var-preserved : goal.loop-var-preserved
loop-var-preserved c =
    let o = c.args.outline.now in
    told_next (unused_of o) c.loop-var.all.items c.add_variable.new.all.items (unused_variables o) c.loop-var.var (length c.names.result.now)
    c.loop-var-test.true c.in_ok-add_variable.ensures c.loop-var.invariant
