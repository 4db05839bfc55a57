use Rattle.std.proofs.Common.{map}
use Rattle.serde_json.specs.View.{view}
use Rattle.og_lsp_features.specs.Diagnosed.{related_data}
use Rattle.og_lsp_features.proofs.Maps.{mapped_more}
use Rattle.og_lsp_features.proofs.values.Placing.related_values.Goals as goal

pub loop-each-preserved : goal.loop-each-preserved
loop-each-preserved c =
    let self = c.args.self.now in
    let f = related_data self.encoding self.uri.now self.lines.now in
    mapped_more view f c.args.related.now c.loop-each.each-index c.each-item.result c.loop-each.values.items c.push.new.self.items c.in_ok-related_value.field-0 (map f c.args.related.now)
    c.loop-each-test.true c.each-item.is c.in_ok-push.ensures.items c.in_ok-related_value.ensures c.loop-each.invariant
