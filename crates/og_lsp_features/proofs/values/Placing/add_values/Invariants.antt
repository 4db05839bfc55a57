use Rattle.std.proofs.Common.{◌≡◌, ◌++◌, drop, map}
use Rattle.serde_json.specs.View.{view}
use Rattle.og_lsp_features.specs.Diagnosed.{diagnostic_data}
use Rattle.og_lsp_features.proofs.values.Placing.add_values.Given as goal

abbrev pub invariant-loop-each : goal.invariant-loop-each
invariant-loop-each l =
    map view l.values.items ++ map (diagnostic_data l.self.encoding l.self.uri.now l.self.lines.now) (drop l.each-index l.all)
    ≡ map view l.initial.values.items ++ map (diagnostic_data l.self.encoding l.self.uri.now l.self.lines.now) l.all
