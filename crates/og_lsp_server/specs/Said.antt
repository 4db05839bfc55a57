-- What is to be said, as JSON.
use Rattle.std.specs.Prelude.{List, map}
use Rattle.serde_json.specs.Data.{Data}
use Rattle.serde_json.specs.View.{view}
use Rattle.og_lsp_server.specs.declared.outbox.Outbox.{Outbox}

abbrev pub said : Outbox → List Data
said out = map view out.said.items
