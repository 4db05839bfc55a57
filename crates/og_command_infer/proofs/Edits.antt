-- No float stands in the JSON of edits.
use Rattle.std.proofs.Common.{◌≡◌, ℕ, List, [], ◌∷◌, false, refl, map}
use Rattle.serde_json.specs.View.{items_of}
use Rattle.serde_json.specs.Written.{items_have_float}
use Rattle.og_infer_marks.specs.declared.edit.Edit.{Edit}
use Rattle.og_command_infer.specs.Printed.{edit_data}

pub no_float_edits : (own : List ℕ) (edits : List Edit) → items_have_float (items_of (map (edit_data own) edits)) ≡ false
no_float_edits own [] = refl
no_float_edits own (edit ∷ edits) = no_float_edits own edits
