use Rattle.std.proofs.Common.{◌≡◌, ◌++◌, drop, map}
use Rattle.serde_json.specs.View.{view}
use Rattle.og_command_infer.specs.Printed.{edit_data}
use Rattle.og_command_infer.proofs.writing.edit_values.Given as goal

abbrev pub invariant-loop-edit : goal.invariant-loop-edit
invariant-loop-edit l =
    map view l.values.items ++ map (edit_data l.places) (drop l.edit-index l.edits) ≡ map (edit_data l.places) l.edits
