use Rattle.std.proofs.Common.{◌≡◌, ◌++◌, drop, map}
use Rattle.serde_json.specs.View.{view}
use Rattle.og_lsp_features.specs.Diagnosed.{related_data}
use Rattle.og_lsp_features.proofs.values.Placing.related_values.Given as goal

abbrev pub invariant-loop-each : goal.invariant-loop-each
invariant-loop-each l =
    map view l.values.items ++ map (related_data l.self.encoding l.self.uri.now l.self.lines.now) (drop l.each-index l.related)
    ≡ map (related_data l.self.encoding l.self.uri.now l.self.lines.now) l.related
