use Rattle.std.proofs.Common.{◌≡◌, ap, ◌∙◌, sym, subst, false, List}
use Rattle.serde_json.specs.Data.{Data, array}
use Rattle.serde_json.specs.View.{items_of}
use Rattle.serde_json.specs.Written.{has_float}
use Rattle.og_command_infer.proofs.Edits.{no_float_edits}
use Rattle.og_command_infer.proofs.writing.edits_text.Goals as goal

pub bytes_of-requires : goal.bytes_of-requires
bytes_of-requires c =
    subst (λ (d : Data). has_float d ≡ false)
    (sym (c.list_value.ensures ∙ ap (λ (all : List Data). array (items_of all)) c.in_ok-values.ensures))
    (no_float_edits c.in_ok-places.places c.args.edits.now)
