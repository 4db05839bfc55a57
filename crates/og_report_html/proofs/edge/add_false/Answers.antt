use Rattle.std.proofs.Common.{◌++◌}
use Rattle.std.proofs.lemmas.Option.{slice_get-get_or}
use Rattle.og_report_html.specs.Edges.{false_edges}
use Rattle.og_report_html.proofs.Steps.{false_go}
use Rattle.og_report_html.proofs.edge.add_false.Goals as goal

pub loop-number-preserved : goal.loop-number-preserved
loop-number-preserved c =
    let spans = c.args.spans.now in
    let ks = c.args.numbers.now in
    let i = c.loop-number.number-index in
    false_go spans ks i _ c.loop-number.edges.items c.add_false_one.new.edges.items (c.args.edges.now.items ++ false_edges spans ks)
    (slice_get-get_or ks i _ c.loop-number-test.true) c.in_ok-add_false_one.ensures c.loop-number.invariant
