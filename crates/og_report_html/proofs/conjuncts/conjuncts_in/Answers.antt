use Rattle.og_report_html.specs.Conjuncts.{conjuncts_in}
use Rattle.og_report_html.proofs.Cuts.{conjuncts_go, depth_grows}
use Rattle.og_report_html.proofs.conjuncts.conjuncts_in.Goals as goal

pub loop-at-preserved : goal.loop-at-preserved
loop-at-preserved c =
    let source = c.args.source.now in
    let cut = c.loop-at.cut in
    let at = c.loop-at.at in
    record {
      whole = conjuncts_go source cut c.next-cut.result at c.args.note.end c.loop-at.spans.items c.add_ended.new.spans.items (conjuncts_in source c.args.note) c.loop-at-test.true c.next-cut.ensures c.in_ok-add_ended.ensures c.loop-at.invariant.whole;
      depth = depth_grows source cut c.next-cut.result at c.next-cut.ensures c.loop-at.invariant.depth;
    }
