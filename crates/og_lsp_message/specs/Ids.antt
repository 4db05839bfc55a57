-- Ids as values.
use Rattle.std.specs.Prelude.{Option, Some, None}
use Rattle.serde_json.specs.Data.{Data, null, number, string}
use Rattle.serde_json.specs.Find.{of_integer}
use Rattle.og_lsp_message.specs.declared.id.Id.{Id}
use Rattle.og_lsp_message.specs.declared.id.Id.TheVariants.{Number, Text}

-- an integer, or a text
abbrev pub id_data : Id → Data
id_data (Number n) = number (of_integer n)
id_data (Text text) = string text.now

-- null, where no id is known
abbrev pub known_id : Option Data → Data
known_id None = null
known_id (Some id) = id
