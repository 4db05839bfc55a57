use Rattle.std.proofs.lemmas.Option.{slice_get-get_or}
use Rattle.og_report_html.specs.Edges.{numbers_within}
use Rattle.og_report_html.proofs.Steps.{within_go}
use Rattle.og_report_html.proofs.edge.numbers_within.Goals as goal

pub loop-index-preserved : goal.loop-index-preserved
loop-index-preserved c =
    let places = c.args.places.now in
    let spans = c.args.spans.now in
    let i = c.loop-index.index in
    within_go places spans i _ c.has_within-is.result c.loop-index.numbers.items c.add_if.new.numbers.items (numbers_within places 0 spans)
    (slice_get-get_or spans i _ c.loop-index-test.true) c.has_within-is.ensures c.in_ok-add_if.ensures c.loop-index.invariant
