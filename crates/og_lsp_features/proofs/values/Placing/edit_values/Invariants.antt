use Rattle.std.proofs.Common.{◌≡◌, ◌++◌, drop, map}
use Rattle.serde_json.specs.View.{view}
use Rattle.og_lsp_features.specs.Values.{edit_data}
use Rattle.og_lsp_features.proofs.values.Placing.edit_values.Given as goal

abbrev pub invariant-loop-span : goal.invariant-loop-span
invariant-loop-span l =
    map view l.values.items ++ map (edit_data l.self.encoding l.self.lines.now l.new) (drop l.span-index l.spans) ≡ map (edit_data l.self.encoding l.self.lines.now l.new) l.spans
